-- The result of opening an existing database.
use Rattle.std.specs.Prelude.{◌≡◌, ◌≢◌, ◌⊎◌, false, IfErr, IfOk, IsTrue, MatchResult, None, Option, Result}
use Rattle.sqlite.specs.Held.{Held, state}
use Rattle.sqlite.specs.State.{HasCleanDisk, Survives}
use Rattle.sqlite.specs.Store.{Ghosts}
use Rattle.job_facts.specs.Contents.{AreSound, Contents}
use Rattle.job_facts.specs.Reopening.{LeavesOnly}
use Rattle.job_facts.specs.Store.{IsFound}
use Rattle.job_facts.specs.declared.store.StoreFault.{StoreFault}
use Rattle.image_laws.specs.Image.{image}
use Rattle.sql_base.specs.Columns.{no_schema}
use Rattle.sql_base.specs.Ends.{IsKept, IsLeft}
use Rattle.sql_tables.specs.declared.versions.Version.{Version}
use Rattle.table_reads.specs.Holding.{HoldsRows, HoldsSoundRows, IsOfVersion}
use Rattle.examination.specs.Causes.{SaysHow, SaysWhat}
use Rattle.examination.specs.declared.damage.Damage.{Damage}
use Rattle.examination.specs.declared.difference.Difference.{Difference}
use Rattle.adoption.specs.Adopts.{Adopts}
use Rattle.adoption.specs.Causes.{IsCaused}
use Rattle.adoption.specs.Unwritten.{LeavesOurs}
use Rattle.adoption.specs.declared.faults.OpenFault.{OpenFault}
use Rattle.adoption.specs.declared.faults.OpenFault.TheVariants as fault
use Rattle.schema.specs.declared.store.SqlStore.{SqlStore}
use Rattle.schema.specs.Begun.{WasHeld}
use Rattle.schema.specs.Left.{IsRefusal, TakesAt}
use Rattle.schema.specs.Link.{FindsAtOpen, link}
use Rattle.schema.specs.Stores.{connection, stands_for}

-- A store is opened over the database `old`, or the database is refused or can't be opened.
pub record OpensExisting {S : Type 0} (g : Ghosts S) (old : Held S) (result : Result (SqlStore S g) (Held S × OpenFault)) : Type 0 where
  -- ---- the store

  -- The database had the rows of sound contents in the tables of some version.
  pub taken : IfOk result (λ store. HasCleanDisk (state g (connection store)) → (v : Version) × HoldsSoundRows v (state g old).now)
  -- The store has the contents whose rows the database had.
  pub holds : IfOk result (λ store. HasCleanDisk (state g (connection store))
      → (v : Version) (c : Contents) → AreSound c → HoldsRows v (image c) (state g old).now → (stands_for g store).holds c)
  -- After a crash, an open finds these contents.
  pub crash : IfOk result (λ store. HasCleanDisk (state g (connection store))
      → (v : Version) (c : Contents) (d : Option Contents) → AreSound c → HoldsRows v (image c) (state g old).now → (stands_for g store).may_leave d → IsFound d c)
  -- The store has returned no fault.
  pub counts : IfOk result (λ store. ((stands_for g store).failed ≡ 0) × ((stands_for g store).full ≡ 0))
  pub opened : IfOk result (λ store. HasCleanDisk (state g (connection store)) → IsTrue (state g (connection store)).is_open)
  -- The store has contents that an open finds in the trees of the database.
  pub takes : IfOk result (λ store. HasCleanDisk (state g (connection store)) → TakesAt (state g old).now.trees (stands_for g store))
  -- ---- the faults

  -- The tables match no version (refusal 81), and differ as the fault states.
  pub not_ours : IfErr result (λ e. HasCleanDisk (state g e.0) → (difference : Difference) → e.1 ≡ fault.NotOurs difference
      → ((v : Version) → ¬ IsOfVersion v (state g old).now) × SaysHow (state g old).now difference)
  -- The tables match a version, but no sound contents have these rows (refusal 82), as the fault states.
  pub damaged : IfErr result (λ e. HasCleanDisk (state g e.0) → (damage : Damage) → e.1 ≡ fault.Damaged damage
      → ((v : Version) × IsOfVersion v (state g old).now) × ((v : Version) → ¬ HoldsSoundRows v (state g old).now) × SaysWhat (state g old).now damage)
  -- The fault is never that the database isn't empty.
  pub existing : IfErr result (λ e. e.1 ≢ fault.NotEmpty)
  -- An open of a refused database finds no contents in it.
  pub refuses : IfErr result (λ e. HasCleanDisk (state g e.0) → IsTrue (state g old).is_open → IsRefusal e.1 → (state g old).now.schema ≢ no_schema → FindsAtOpen None (state g old).now.trees)
  -- A fault of the store has a cause.
  pub cause : IfErr result (λ e. HasCleanDisk (state g e.0) → (own : StoreFault) → e.1 ≡ fault.Store own → IsCaused g (state g old) (state g e.0) own)
  -- ---- the database

  pub kept : IfErr result (λ e. HasCleanDisk (state g e.0) → IsKept (state g old) (state g e.0))
  pub idle : IfErr result (λ e. e.0.in_transaction ≡ false)
  -- After a fault, an open after a crash finds what it could find before, or the contents that the
  -- database had.
  pub late : IfErr result (λ e. HasCleanDisk (state g e.0)
      → (d : Option Contents) → (link (state g e.0) 0 0).may_leave d → (link (state g old) 0 0).may_leave d ⊎ WasHeld d (state g old).now)
  -- After a fault, an open after a crash finds exactly the contents whose rows the database had.
  pub leaves : IfErr result (λ e. HasCleanDisk (state g e.0) → IsTrue (state g old).is_open
      → (v : Version) (c : Contents) → AreSound c → HoldsRows v (image c) (state g old).now → LeavesOnly (link (state g e.0) 0 0) c)
  -- Tables that are as the store creates them aren't modified.
  pub unchanged : MatchResult result (λ store. LeavesOurs (state g old) (state g (connection store))) (λ e. LeavesOurs (state g old) (state g e.0))
  pub survives : MatchResult result (λ store. Survives (state g old) (state g (connection store)) (IsLeft Adopts (state g old))) (λ e. Survives (state g old) (state g e.0) (IsLeft Adopts (state g old)))
