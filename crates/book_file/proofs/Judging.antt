-- Lemmas: from the finding to the book, or to the fault that says why there is none.
use Rattle.std.proofs.Common.{◌≡◌, Option, Some, None, Result, Ok, Err, IfErr, IfOk, refl}
use Rattle.sqlite.specs.Effect.{Database}
use Rattle.sqlite.specs.State.{State}
use Rattle.sqlite.specs.Store.{Ghosts}
use Rattle.sqlite.specs.declared.error.Error.{Error}
use Rattle.job_facts.specs.Contents.{AreSound, Contents}
use Rattle.job_facts.specs.declared.store.StoreFault.{StoreFault}
use Rattle.job_facts.specs.declared.store.StoreFault.TheVariants.{Device, Full, Memory}
use Rattle.table_rows.specs.Tables.{HaveSameRows, Tables}
use Rattle.image_laws.specs.Image.{image}
use Rattle.audit_laws.specs.Audited.{AreInOrder, IsAudited}
use Rattle.audit_rows.specs.declared.rule.Rule.{Rule}
use Rattle.audit_rows.proofs.AuditLemmas.{ready_of}
use Rattle.sql_base.specs.Causes.{HadCause}
use Rattle.examination.specs.Findings as examined
use Rattle.examination.specs.Findings.{IsFinding, IsWhole}
use Rattle.examination.specs.declared.finding.Finding.{Finding}
use Rattle.examination.specs.declared.finding.Finding.TheVariants.{NotOurs, Read, Unreadable}
use Rattle.adoption.specs.Faults.{fault_for}
use Rattle.over_tables.specs.Faults.{of_store}
use Rattle.over_tables.specs.Refusals.{Explains, ReportsStorage}
use Rattle.over_tables.specs.declared.fault.FileFault.TheVariants.{Storage}
use Rattle.book_file.specs.Found.{HasVerdict, IsFound, answer_of}

-- ---- the verdict

abbrev Law : Type 0
Law = (c : Contents) (t : Tables) → AreSound c → AreInOrder t → HaveSameRows t (image c) → IsAudited t

verdict_of : Law → (t : Tables) (failing : Option Rule) → examined.HasVerdict t failing → HasVerdict t failing
verdict_of law t None verdict =
    let w = verdict.sound.0 refl in
    let a : IsAudited t = law w.0 t w.1 verdict.sorted.in_order w.2 in
    record { audited = a; sorted = verdict.sorted; ready = ready_of t verdict.sorted a.products a.lots a.batch_ids }
verdict_of law t (Some rule) verdict = verdict.first

-- ---- the book

pub book_found : Law → (db : Database) (r : Result Finding Error) → IfOk r (IsFinding db) → IfOk (answer_of r) (IsFound db)
book_found law db (Ok (NotOurs d)) is = tt
book_found law db (Ok Unreadable) is = tt
book_found law db (Ok (Read rows failing)) is = record {
  rows = is.rows;
  held = is.held;
  sorted = is.verdict.sorted;
  verdict = verdict_of law is.rows failing is.verdict;
  tables = is.tables;
}
book_found law db (Err e) is = tt

pub book_whole : Law → (r : Result Finding Error) → IfOk r IsWhole → IfOk (answer_of r) (λ book. HasVerdict book.tables book.failing)
book_whole law (Ok (NotOurs d)) is = tt
book_whole law (Ok Unreadable) is = tt
book_whole law (Ok (Read rows failing)) is = verdict_of law rows.tables failing is
book_whole law (Err e) is = tt

-- ---- the fault

plain : (db : Database) (own : StoreFault) → Explains db (of_store own)
plain db Memory = tt
plain db Device = tt
plain db Full = tt

pub fault_explains : (db : Database) (r : Result Finding Error) → IfOk r (IsFinding db) → IfErr (answer_of r) (Explains db)
fault_explains db (Ok (NotOurs d)) is = is.1
fault_explains db (Ok Unreadable) is = is
fault_explains db (Ok (Read rows failing)) is = tt
fault_explains db (Err e) is = plain db (fault_for e)

pub storage_caused : {S : Type 0} (g : Ghosts S) (old new : State) (r : Result Finding Error) → IfErr r (HadCause g old new) → IfErr (answer_of r) (λ fault. fault ≡ Storage → ReportsStorage g old new)
storage_caused g old new (Ok (NotOurs d)) had = λ is. absurd (cc is)
storage_caused g old new (Ok Unreadable) had = λ is. absurd (cc is)
storage_caused g old new (Ok (Read rows failing)) had = tt
storage_caused g old new (Err e) had = λ is. (fault_for e, is, (e, refl, had))
