-- Lemmas: from an opened connection to its store, or to the reason why it isn't opened.
use Rattle.std.proofs.Common.{◌≡◌, ◌≢◌, ◌⊎◌, Option, IsTrue, inl, inr, refl, sym, subst}
use Rattle.sqlite.specs.Effect.{Database}
use Rattle.sqlite.specs.State as sqlite
use Rattle.sqlite.specs.State.{HasCleanDisk}
use Rattle.sqlite.specs.Store.{Ghosts}
use Rattle.job_facts.specs.Contents.{AreSound, Contents, no_contents}
use Rattle.job_facts.specs.Reopening.{LeavesOnly, OpensWith}
use Rattle.job_facts.specs.Store.{IsFound, State}
use Rattle.job_facts.specs.declared.store.StoreFault.{StoreFault}
use Rattle.job_facts.specs.declared.store.StoreFault.TheVariants.{Device, Full, Memory}
use Rattle.image_laws.specs.Image.{image}
use Rattle.sql_base.specs.Columns.{no_schema}
use Rattle.sql_base.specs.Ends.{IsKept}
use Rattle.sql_tables.specs.declared.versions.Version.{Version}
use Rattle.table_reads.specs.Holding.{HoldsRows, HoldsSoundRows, IsOfVersion}
use Rattle.examination.specs.Causes.{SaysHow, SaysWhat}
use Rattle.examination.specs.declared.damage.Damage.{Damage}
use Rattle.examination.specs.declared.difference.Difference.{Difference}
use Rattle.adoption.specs.Causes.{IsCaused}
use Rattle.adoption.specs.declared.faults.OpenFault.{OpenFault}
use Rattle.adoption.specs.declared.faults.OpenFault.TheVariants as open_fault
use Rattle.schema.specs.Begun.{WasHeld}
use Rattle.schema.specs.Left.{IsRefusal}
use Rattle.schema.specs.Link.{link}
use Rattle.over_tables.specs.Opens.{Begins, IsOpened}
use Rattle.over_tables.specs.Faults.{of_open}
use Rattle.over_tables.specs.Refusals.{Explains, IsDamaged, IsNotOurs, IsOfStore, IsRefused, ReportsStorage}
use Rattle.over_tables.specs.declared.fault.FileFault.{FileFault}
use Rattle.over_tables.specs.declared.fault.FileFault.TheVariants.{Storage}
use Rattle.over_tables.specs.declared.opening.Wanted.{Wanted}
use Rattle.over_tables.specs.declared.opening.Wanted.TheVariants.{Any, Ours}

-- a new store is created only in an empty database
pub empty : (wanted : Wanted) (db : Database) → Begins wanted db → db.schema ≡ no_schema
empty Any db begins = begins
empty Ours db begins = absurd begins

pub opened_new : (wanted : Wanted) (db : Database) (store : State) → Begins wanted db → store.holds no_contents → LeavesOnly store no_contents
    → IsOpened wanted db store
opened_new wanted db store begins holds crash = record {
  some = (no_contents, inl (begins, refl));
  opens = λ c how. elim how [ inl it ↦ subst (OpensWith store) (sym it.1) (record { holds = holds; crash = crash }) | inr it ↦ absurd (it.0 begins) ];
}

pub opened_over : (wanted : Wanted) (db : Database) (store : State) → ¬ Begins wanted db → (v : Version) × HoldsSoundRows v db
    → ((v : Version) (c : Contents) → AreSound c → HoldsRows v (image c) db → store.holds c)
    → ((v : Version) (c : Contents) (d : Option Contents) → AreSound c → HoldsRows v (image c) db → store.may_leave d → IsFound d c)
    → IsOpened wanted db store
opened_over wanted db store stands taken holds crash = record {
  some = (taken.1.0, inr (stands, (taken.1.1, (taken.0, taken.1.2))));
  opens = λ c how. elim how [
    | inl it ↦ absurd (stands it.0)
    | inr it ↦ record { holds = holds it.1.1.0 c it.1.0 it.1.1.1; crash = λ d. crash it.1.1.0 c d it.1.0 it.1.1.1 }
  ];
}

-- ---- the refusals

not_named : (e : OpenFault) → ((d : Difference) → e ≢ open_fault.NotOurs d) → ¬ IsNotOurs (of_open e)
not_named open_fault.NotEmpty named is = is
not_named (open_fault.NotOurs d) named is = named d refl
not_named (open_fault.Damaged d) named is = is
not_named (open_fault.Store Memory) named is = is
not_named (open_fault.Store Device) named is = is
not_named (open_fault.Store Full) named is = is

not_damaged : (e : OpenFault) → ((d : Damage) → e ≢ open_fault.Damaged d) → ¬ IsDamaged (of_open e)
not_damaged open_fault.NotEmpty damaged is = is
not_damaged (open_fault.NotOurs d) damaged is = is
not_damaged (open_fault.Damaged d) damaged is = damaged d refl
not_damaged (open_fault.Store Memory) damaged is = is
not_damaged (open_fault.Store Device) damaged is = is
not_damaged (open_fault.Store Full) damaged is = is

-- the refusal of an existing database
module _ (db : Database) where
  abbrev AreOthers : OpenFault → Type 0
  AreOthers e = (d : Difference) → e ≡ open_fault.NotOurs d → ((v : Version) → ¬ IsOfVersion v db) × SaysHow db d

  abbrev AreDamaged : OpenFault → Type 0
  AreDamaged e = (d : Damage) → e ≡ open_fault.Damaged d → ((v : Version) × IsOfVersion v db) × ((v : Version) → ¬ HoldsSoundRows v db) × SaysWhat db d

  of_no_version : (e : OpenFault) → AreOthers e → IsNotOurs (of_open e) → (v : Version) → ¬ IsOfVersion v db
  of_no_version open_fault.NotEmpty others is = absurd is
  of_no_version (open_fault.NotOurs d) others is = (others d refl).0
  of_no_version (open_fault.Damaged d) others is = absurd is
  of_no_version (open_fault.Store Memory) others is = absurd is
  of_no_version (open_fault.Store Device) others is = absurd is
  of_no_version (open_fault.Store Full) others is = absurd is

  of_other_rows : (e : OpenFault) → AreDamaged e → IsDamaged (of_open e) → ((v : Version) × IsOfVersion v db) × ((v : Version) → ¬ HoldsSoundRows v db)
  of_other_rows open_fault.NotEmpty damaged is = absurd is
  of_other_rows (open_fault.NotOurs d) damaged is = absurd is
  of_other_rows (open_fault.Damaged d) damaged is = let all = damaged d refl in (all.0, all.1)
  of_other_rows (open_fault.Store Memory) damaged is = absurd is
  of_other_rows (open_fault.Store Device) damaged is = absurd is
  of_other_rows (open_fault.Store Full) damaged is = absurd is

  explains : (e : OpenFault) → AreOthers e → AreDamaged e → Explains db (of_open e)
  explains open_fault.NotEmpty others damaged = tt
  explains (open_fault.NotOurs d) others damaged = (others d refl).1
  explains (open_fault.Damaged d) others damaged = (damaged d refl).2
  explains (open_fault.Store Memory) others damaged = tt
  explains (open_fault.Store Device) others damaged = tt
  explains (open_fault.Store Full) others damaged = tt

-- the database of `old` isn't opened, because of `e`
module _ (wanted : Wanted) (old new : sqlite.State) (e : OpenFault) where
  pub refused_new : Begins wanted old.now → ((d : Difference) → e ≢ open_fault.NotOurs d) → ((d : Damage) → e ≢ open_fault.Damaged d) → (HasCleanDisk new → HasCleanDisk old)
      → (HasCleanDisk new → IsTrue old.is_open → IsKept old new) → (HasCleanDisk new → (d : Option Contents) → (link new 0 0).may_leave d → (link old 0 0).may_leave d ⊎ IsFound d no_contents)
      → IsRefused wanted old new (of_open e)
  refused_new begins named unread early stays late = record {
    clean = early;
    not_empty = λ is. absurd (not_named e named is);
    not_ours = λ clean is. absurd (not_named e named is);
    damaged = λ clean is. absurd (not_damaged e unread is);
    why = λ clean. explains old.now e (λ d is. absurd (named d is)) (λ d is. absurd (unread d is));
    kept = stays;
    crash = λ clean d left. elim (late clean d left) [ inl may ↦ inl may | inr found ↦ inr (inl (begins, found)) ];
  }

  pub refused_over : ¬ Begins wanted old.now → (HasCleanDisk new → AreOthers old.now e) → (HasCleanDisk new → AreDamaged old.now e) → (HasCleanDisk new → HasCleanDisk old)
      → (HasCleanDisk new → IsKept old new) → (HasCleanDisk new → (d : Option Contents) → (link new 0 0).may_leave d → (link old 0 0).may_leave d ⊎ WasHeld d old.now)
      → IsRefused wanted old new (of_open e)
  refused_over stands others damaged early stays late = record {
    clean = early;
    not_empty = λ is. stands;
    not_ours = λ clean is. of_no_version old.now e (others clean) is;
    damaged = λ clean is. of_other_rows old.now e (damaged clean) is;
    why = λ clean. explains old.now e (others clean) (damaged clean);
    kept = λ clean was. stays clean;
    crash = λ clean d left. elim (late clean d left) [ inl may ↦ inl may | inr held ↦ inr (inr held) ];
  }

-- A database isn't opened because of a fault of the store, before anything is done to it.
pub refused_early : (wanted : Wanted) (old : sqlite.State) (fault : FileFault) → IsOfStore fault → IsRefused wanted old old fault
refused_early wanted old fault (own, is) = subst (IsRefused wanted old old) (sym is) (record {
  clean = λ clean. clean;
  not_empty = λ it. absurd (not_named (open_fault.Store own) (λ d named. absurd (cc named)) it);
  not_ours = λ clean it. absurd (not_named (open_fault.Store own) (λ d named. absurd (cc named)) it);
  damaged = λ clean it. absurd (not_damaged (open_fault.Store own) (λ d unread. absurd (cc unread)) it);
  why = λ clean. explains old.now (open_fault.Store own) (λ d named. absurd (cc named)) (λ d unread. absurd (cc unread));
  kept = λ clean was. record { was_open = λ is_open. is_open; now_is = λ _. refl; committed_is = λ _. refl };
  crash = λ clean d left. inl left;
})

-- Only a refusal is reported as one.
pub refusal : (e : OpenFault) → IsNotOurs (of_open e) ⊎ IsDamaged (of_open e) → IsRefusal e
refusal open_fault.NotEmpty is = tt
refusal (open_fault.NotOurs d) is = tt
refusal (open_fault.Damaged d) is = tt
refusal (open_fault.Store Memory) is = elim is [ inl none ↦ none | inr none ↦ none ]
refusal (open_fault.Store Device) is = elim is [ inl none ↦ none | inr none ↦ none ]
refusal (open_fault.Store Full) is = elim is [ inl none ↦ none | inr none ↦ none ]

-- ---- a fault of the device

pub storage_caused : {S : Type 0} (g : Ghosts S) (old new : sqlite.State) (e : OpenFault) → e ≢ open_fault.NotEmpty → ((own : StoreFault) → e ≡ open_fault.Store own → IsCaused g old new own)
    → of_open e ≡ Storage → ReportsStorage g old new
storage_caused g old new open_fault.NotEmpty existing cause is = absurd (existing refl)
storage_caused g old new (open_fault.NotOurs d) existing cause is = absurd (cc is)
storage_caused g old new (open_fault.Damaged d) existing cause is = absurd (cc is)
storage_caused g old new (open_fault.Store own) existing cause is = (own, is, cause own refl)
