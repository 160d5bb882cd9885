-- The facts about a database that follow from its finding: whether it holds the rows of sound
-- contents.
use Rattle.std.proofs.Common.{◌≡◌, Some, None, false, true, refl, subst}
use Rattle.sqlite.specs.Effect.{Database}
use Rattle.image_laws.specs.Image.{image}
use Rattle.table_rows.specs.Tables.{HaveSameRows}
use Rattle.table_rows.proofs.Same.{itself}
use Rattle.audit_rows.specs.declared.rule.Rule.{Rule}
use Rattle.sql_tables.specs.declared.versions.Version.{Version}
use Rattle.table_reads.specs.Holding.{HoldsRows, HoldsSoundRows, IsOfVersion}
use Rattle.table_reads.specs.Reading.{HoldsNoneOf}
use Rattle.table_reads.proofs.OneHeld.{one_held}
use Rattle.table_reads.proofs.OneVersion.{one_version}
use Rattle.table_reads.proofs.SoundRanges.{sound_fit}
use Rattle.examination.specs.Findings.{AreOfSoundContents, AreReadFrom}
use Rattle.examination.specs.declared.finding.ExaminedRows.{ExaminedRows}
use Rattle.adoption.specs.Reading.{HoldsAsRead}

-- no rows could be read
pub none_sound : (v : Version) (db : Database) → IsOfVersion v db → HoldsNoneOf v db → (w : Version) → ¬ HoldsSoundRows w db
none_sound v db is none w held = none (image held.0) (sound_fit held.0 held.1) (subst (λ x. HoldsRows x (image held.0) db) (one_version w v db held.2.version is.1) held.2)

-- Rows that break a rule aren't the rows of sound contents.
pub rule_broken : (db : Database) (read : ExaminedRows) (rule : Rule) → AreReadFrom db read (Some rule) → (w : Version) → ¬ HoldsSoundRows w db
rule_broken db read rule is w sound =
    let whole : AreOfSoundContents is.rows = (sound.0, sound.1, one_held read.version w is.rows (image sound.0) db is.held sound.2) in
    let none : true ≡ false = is.verdict.sound.1 whole in
    absurd (cc none)

-- Rows that break no rule are the rows of sound contents.
pub sound_read : (db : Database) (read : ExaminedRows) → AreReadFrom db read None → HoldsAsRead read db
sound_read db read is = (
  is.rows,
  record { rows = is.held; same = subst (HaveSameRows read.tables) is.tables (itself read.tables); as_made = is.as_made },
  is.verdict.sound.0 refl,
)
