-- The result of auditing the rows that were read from a database.
use Rattle.std.proofs.Common.{◌≡◌, ◌↔◌, IsTrue, Option, Some, None, Result, Ok, Err, subst, sym}
use Rattle.std.specs.Prelude.{IfOk, IfSome, IsNone, MatchOption}
use Rattle.sqlite.specs.Effect.{Database}
use Rattle.sqlite.specs.State.{State}
use Rattle.sqlite.specs.declared.error.Error.{Error}
use Rattle.table_rows.specs.Tables.{HaveSameRows, Tables}
use Rattle.image_laws.specs.Image.{image}
use Rattle.audit_order.specs.Order.{AreSorted}
use Rattle.audit_rows.specs.Rules.{FailsFirst, rules}
use Rattle.audit_rows.specs.declared.rule.Rule.{Rule}
use Rattle.audit_rows.proofs.SoundLemmas.{same_back, same_through}
use Rattle.sql_base.specs.Ends.{IsKept}
use Rattle.sql_tables.specs.Tables.{our_schema}
use Rattle.sql_tables.specs.declared.versions.VersionMatch.{VersionMatch}
use Rattle.table_reads.specs.Reading.{HasForAudit, HoldsNoneOf, IsForAudit, Reads}
use Rattle.table_reads.specs.Rowids.{StandAsMade}
use Rattle.table_reads.specs.declared.tables.HeldRows.{HeldRows}
use Rattle.examination.specs.Findings.{AreOfSoundContents, HasVerdict, IsDamageOf, IsFinding}
use Rattle.examination.specs.Standings.{IsSchemaMatch}
use Rattle.examination.specs.declared.finding.Finding.{Finding}
use Rattle.examination.specs.declared.finding.Finding.TheVariants.{NotOurs, Read, Unreadable}
use Rattle.examination.specs.declared.finding.SchemaMatch.{SchemaMatch}
use Rattle.examination.specs.declared.finding.SchemaMatch.TheVariants.{Ours}
use Rattle.examination.proofs.WholeRows.{read_from}

-- ---- the audit

-- `u` has the rows `t`, sorted.
pub verdict_of : (t u : Tables) (failing : Option Rule) → (IsNone failing ↔ AreOfSoundContents t) → IfSome failing (FailsFirst rules u) → AreSorted u → HaveSameRows u t → HasVerdict u failing
verdict_of t u failing sound first sorted same = record {
  sorted = sorted;
  sound = (
    λ none. let w = sound.0 none in (w.0, w.1, same_through u t (image w.0) same w.2),
    λ w. sound.1 (w.0, w.1, same_through t u (image w.0) (same_back u t same) w.2),
  );
  first = first;
}

rows_judged : (db : Database) (found : VersionMatch) (held : HeldRows) (finding : Finding) → (IsTrue found.is_exact ↔ (db.schema ≡ our_schema)) → IsForAudit found.version db held → IsDamageOf found held finding → IsFinding db finding
rows_judged db found held (NotOurs difference) exact is judged = absurd judged
rows_judged db found held Unreadable exact is judged = absurd judged
rows_judged db found held (Read rows failing) exact is judged =
    let as_made : IsTrue rows.as_made ↔ StandAsMade db = (
      λ made. let both = judged.2.0 made in let ours = exact.0 both.0 in (ours, (is.apart ours).0 both.1),
      λ made. judged.2.1 (exact.1 made.0, (is.apart made.0).1 made.1),
    ) in
    read_from db held rows failing (subst (λ v. IsForAudit v db held) (sym judged.0) is) judged.1 judged.3 as_made

-- ---- the same state, and a later state that shows the same database

-- The tables are the tables of the version `found`.
pub stands_as : (db : Database) (given : SchemaMatch) (found : VersionMatch) → given ≡ Ours found → IsSchemaMatch db given → IsSchemaMatch db (Ours found)
stands_as db given found is value = subst (IsSchemaMatch db) is value

module _ (old mid : State) (kept : IsKept old mid) (found : VersionMatch) (is : IsSchemaMatch old.now (Ours found)) where
  pub none_read : (held : Option HeldRows) → held ≡ None → Reads (HoldsNoneOf found.version) (HasForAudit found.version) mid held → IsFinding old.now Unreadable
  none_read held none read =
      let v = found.version in
      (v, is.0, subst (HoldsNoneOf v) (kept.now_is read.0) (subst (λ x. MatchOption x (HoldsNoneOf v mid.now) (HasForAudit v mid.now)) none read.1))

  pub read_judged : (given : Option HeldRows) (held : HeldRows) → given ≡ Some held → Reads (HoldsNoneOf found.version) (HasForAudit found.version) mid given → (r : Result Finding Error) → IfOk r (IsDamageOf found held) → IfOk r (IsFinding old.now)
  read_judged given held some read (Ok finding) judged =
      let v = found.version in
      let has : HasForAudit v mid.now held = subst (λ x. MatchOption x (HoldsNoneOf v mid.now) (HasForAudit v mid.now)) some read.1 in
      let here : HasForAudit v old.now held = subst (λ db. HasForAudit v db held) (kept.now_is read.0) has in
      rows_judged old.now found held finding is.2 (here is.0.0 is.1 is.0.1) judged
  read_judged given held some read (Err e) judged = tt
