-- The result of examining a database.
use Rattle.std.specs.Prelude.{◌≡◌, ◌↔◌, IfSome, IsNone, IsTrue, Option}
use Rattle.sqlite.specs.Effect.{Database}
use Rattle.job_facts.specs.Contents.{AreSound, Contents}
use Rattle.table_rows.specs.Tables.{HaveSameRows, Tables}
use Rattle.image_laws.specs.Image.{image}
use Rattle.audit_order.specs.Order.{AreSorted}
use Rattle.audit_rows.specs.Rules.{FailsFirst, rules}
use Rattle.audit_rows.specs.declared.rule.Rule.{Rule}
use Rattle.sql_tables.specs.declared.versions.Version.{Version}
use Rattle.sql_tables.specs.declared.versions.VersionMatch.{VersionMatch}
use Rattle.table_reads.specs.Holding.{HoldsRows, IsOfVersion}
use Rattle.table_reads.specs.Reading.{HoldsNoneOf}
use Rattle.table_reads.specs.Rowids.{StandAsMade}
use Rattle.table_reads.specs.Unread.{without_reply_bytes}
use Rattle.table_reads.specs.declared.tables.HeldRows.{HeldRows}
use Rattle.examination.specs.Causes.{IsNotOurs, SaysHow}
use Rattle.examination.specs.declared.finding.ExaminedRows.{ExaminedRows}
use Rattle.examination.specs.declared.finding.Finding.{Finding}
use Rattle.examination.specs.declared.finding.Finding.TheVariants.{NotOurs, Read, Unreadable}

-- The rows are the rows of sound contents.
abbrev pub AreOfSoundContents : Tables → Type 0
AreOfSoundContents t = (c : Contents) × AreSound c × HaveSameRows t (image c)

-- The rows are sorted, and `failing` is the first audit rule that they break. It is `None` if and
-- only if they are the rows of sound contents.
pub record HasVerdict (t : Tables) (failing : Option Rule) : Type 0 where
  pub sorted : AreSorted t
  pub sound : IsNone failing ↔ AreOfSoundContents t
  pub first : IfSome failing (FailsFirst rules t)

-- The database `db` holds the rows `rows`, with the verdict `failing`. `read` has them in the same
-- order, without the bytes of replies, and tells whether the tables and rowids of `db` are as the
-- store makes them.
pub record AreReadFrom (db : Database) (read : ExaminedRows) (failing : Option Rule) : Type 0 where
  pub rows : Tables
  pub held : HoldsRows read.version rows db
  pub verdict : HasVerdict rows failing
  pub tables : read.tables ≡ without_reply_bytes rows
  pub as_made : IsTrue read.as_made ↔ StandAsMade db

-- `db` has the tables of no schema version, and `difference` is how they differ; or it has the
-- tables of a version, whose rows can't be read, or are `rows` with the verdict `failing`
-- (docs/TABLES.md, "Open an existing file", this project's profile).
abbrev pub IsFinding : Database → Finding → Type 0
IsFinding db (NotOurs difference) = IsNotOurs db × SaysHow db difference
IsFinding db Unreadable = (v : Version) × IsOfVersion v db × HoldsNoneOf v db
IsFinding db (Read rows failing) = AreReadFrom db rows failing

-- Rows that were read have a correct verdict, even if the device returned wrong data.
abbrev pub IsWhole : Finding → Type 0
IsWhole (NotOurs difference) = Unit {0}
IsWhole Unreadable = Unit {0}
IsWhole (Read rows failing) = HasVerdict rows.tables failing

-- The finding has the rows `held` of the version `found`, in another order, with their verdict.
abbrev pub IsDamageOf : VersionMatch → HeldRows → Finding → Type 0
IsDamageOf found held (NotOurs difference) = ⊥
IsDamageOf found held Unreadable = ⊥
IsDamageOf found held (Read rows failing) =
    (rows.version ≡ found.version) × HaveSameRows rows.tables held.tables × (IsTrue rows.as_made ↔ (IsTrue found.is_exact × IsTrue held.apart)) × HasVerdict rows.tables failing
