-- The facts about a database that follow from the result of opening it.
use Rattle.std.proofs.Common.{◌≡◌, ◌≢◌, ◌∙◌, Err, IfErr, IfOk, None, Ok, Result, Some, subst, sym}
use Rattle.std.specs.Result.{IsErrAnd}
use Rattle.sqlite.specs.Effect.{Database}
use Rattle.sqlite.specs.State.{State}
use Rattle.sqlite.specs.Store.{Ghosts}
use Rattle.sqlite.specs.declared.error.Error.{Error}
use Rattle.job_facts.specs.declared.store.StoreFault.{StoreFault}
use Rattle.sql_base.specs.Causes.{HadCause}
use Rattle.sql_tables.specs.declared.versions.Version.{Version}
use Rattle.table_reads.specs.Holding.{HoldsSoundRows, IsOfVersion}
use Rattle.examination.specs.Causes.{SaysHow, SaysWhat}
use Rattle.examination.specs.Findings.{IsFinding}
use Rattle.examination.specs.declared.damage.Damage.{Damage}
use Rattle.examination.specs.declared.damage.Damage.TheVariants.{Broken, UnreadableRow}
use Rattle.examination.specs.declared.difference.Difference.{Difference}
use Rattle.examination.specs.declared.finding.ExaminedRows.{ExaminedRows}
use Rattle.examination.specs.declared.finding.Finding.{Finding}
use Rattle.examination.specs.declared.finding.Finding.TheVariants.{NotOurs, Read, Unreadable}
use Rattle.adoption.specs.Causes.{IsCaused}
use Rattle.adoption.specs.Faults.{fault_for}
use Rattle.adoption.specs.Reading.{HoldsAsRead}
use Rattle.adoption.specs.Taken.{rows_taken}
use Rattle.adoption.specs.declared.faults.OpenFault.{OpenFault}
use Rattle.adoption.specs.declared.faults.OpenFault.TheVariants as fault
use Rattle.adoption.proofs.Causes.{caused}
use Rattle.adoption.proofs.Judging.{none_sound, rule_broken, sound_read}

abbrev taken_as : ExaminedRows → Result ExaminedRows OpenFault
taken_as rows = Ok rows

same_rows : (p q : ExaminedRows) → taken_as p ≡ taken_as q → p ≡ q
same_rows p q is = cc is

abbrev refused_as : OpenFault → Result ExaminedRows OpenFault
refused_as f = Err f

same_fault : (f g : OpenFault) → refused_as f ≡ refused_as g → f ≡ g
same_fault f g is = cc is

same_difference : (d e : Difference) → fault.NotOurs d ≡ fault.NotOurs e → d ≡ e
same_difference d e is = cc is

same_damage : (d e : Damage) → fault.Damaged d ≡ fault.Damaged e → d ≡ e
same_damage d e is = cc is

module _ (db : Database) where
  pub found_sound : (r : Result Finding Error) (rows : ExaminedRows) → rows_taken r ≡ Ok rows → IfOk r (IsFinding db) → HoldsAsRead rows db
  found_sound (Ok (NotOurs d)) rows is finding = absurd (cc is)
  found_sound (Ok Unreadable) rows is finding = absurd (cc is)
  found_sound (Ok (Read given None)) rows is finding = subst (λ (read : ExaminedRows). HoldsAsRead read db) (same_rows given rows is) (sound_read db given finding)
  found_sound (Ok (Read given (Some rule))) rows is finding = absurd (cc is)
  found_sound (Err e) rows is finding = absurd (cc is)

  -- The tables are those of no version, and differ as the fault says.
  abbrev pub AreOthers : Difference → Type 0
  AreOthers d = ((v : Version) → ¬ IsOfVersion v db) × SaysHow db d

  pub found_not_ours : (r : Result Finding Error) (f : OpenFault) → rows_taken r ≡ Err f → IfOk r (IsFinding db) → (d : Difference) → f ≡ fault.NotOurs d → AreOthers d
  found_not_ours (Ok (NotOurs e)) f is finding d same = subst AreOthers (same_difference e d (same_fault (fault.NotOurs e) f is ∙ same)) finding
  found_not_ours (Ok Unreadable) f is finding d same = absurd (cc (is, same))
  found_not_ours (Ok (Read given None)) f is finding d same = absurd (cc is)
  found_not_ours (Ok (Read given (Some rule))) f is finding d same = absurd (cc (is, same))
  found_not_ours (Err e) f is finding d same = absurd (cc (is, same))

  -- The tables are those of a version, but the rows aren't those of sound contents, as the fault
  -- says.
  abbrev pub AreDamaged : Damage → Type 0
  AreDamaged d = ((v : Version) × IsOfVersion v db) × ((v : Version) → ¬ HoldsSoundRows v db) × SaysWhat db d

  pub found_damaged : (r : Result Finding Error) (f : OpenFault) → rows_taken r ≡ Err f → IfOk r (IsFinding db) → (d : Damage) → f ≡ fault.Damaged d → AreDamaged d
  found_damaged (Ok (NotOurs e)) f is finding d same = absurd (cc (is, same))
  found_damaged (Ok Unreadable) f is finding d same =
      subst AreDamaged (same_damage UnreadableRow d (same_fault (fault.Damaged UnreadableRow) f is ∙ same))
      ((finding.0, finding.1), none_sound finding.0 db finding.1 finding.2, finding)
  found_damaged (Ok (Read given None)) f is finding d same = absurd (cc is)
  found_damaged (Ok (Read given (Some rule))) f is finding d same =
      subst AreDamaged (same_damage (Broken rule) d (same_fault (fault.Damaged (Broken rule)) f is ∙ same))
      ((given.version, (finding.held.just, finding.held.version)), rule_broken db given rule finding, (given.version, (finding.rows, finding.held, finding.verdict.sorted, finding.verdict.first)))
  found_damaged (Err e) f is finding d same = absurd (cc (is, same))

-- A database that is examined needn't be empty.
pub found_existing : (r : Result Finding Error) (f : OpenFault) → rows_taken r ≡ Err f → f ≢ fault.NotEmpty
found_existing (Ok (NotOurs d)) f is same = absurd (cc (is, same))
found_existing (Ok Unreadable) f is same = absurd (cc (is, same))
found_existing (Ok (Read given None)) f is same = absurd (cc is)
found_existing (Ok (Read given (Some rule))) f is same = absurd (cc (is, same))
found_existing (Err e) f is same = absurd (cc (is, same))

-- A fault is reported with the cause of its error.
pub found_caused : {S : Type 0} (g : Ghosts S) (old new : State) (r : Result Finding Error) (f : OpenFault) → rows_taken r ≡ Err f → IfErr r (HadCause g old new)
    → (own : StoreFault) → f ≡ fault.Store own → IsCaused g old new own
found_caused g old new (Ok (NotOurs d)) f is had own reported = absurd (cc (is, reported))
found_caused g old new (Ok Unreadable) f is had own reported = absurd (cc (is, reported))
found_caused g old new (Ok (Read given None)) f is had own reported = absurd (cc is)
found_caused g old new (Ok (Read given (Some rule))) f is had own reported = absurd (cc (is, reported))
found_caused g old new (Err e) f is had own reported = let told : f ≡ fault.Store (fault_for e) = cc is in caused g old new e f own told reported had

-- the result if `?` returns early with an error
pub passed : {X : Type 0} (P : OpenFault → Type 0) (r : Result X OpenFault) (f : OpenFault) → IsErrAnd r (λ g. g ≡ f) → P f → IfErr r P
passed P (Ok x) f is holds = tt
passed P (Err g) f is holds = subst P (sym is) holds
