-- Calls that leave every tree unchanged.
use Rattle.std.proofs.Common.{◌≡◌, false, IsTrue, Result, Ok, Err, OnErr, OnOk, inl, inr, sym, subst, arith}
use Rattle.std.proofs.lemmas.Bool.{cases_Bool}
use Rattle.sqlite.specs.Effect.{Database}
use Rattle.sqlite.specs.State.{HasCleanDisk, State, Survives}
use Rattle.sql_base.specs.Ends.{IsKept, IsLeft}
use Rattle.table_reads.specs.Rowids.{StandAsMade}
use Rattle.table_reads.proofs.After.{kept_then}
use Rattle.adoption.specs.EndsCommitted.{EndsCommitted}
use Rattle.adoption.specs.Unwritten.{LeavesOurs, LeavesTrees}

-- A read leaves every tree unchanged.
pub only_read : (old new : State) → (HasCleanDisk new → IsKept old new) → Survives old new (λ _. ⊥) → HasCleanDisk new → LeavesTrees old new
only_read old new kept survives clean = record {
  kept = kept clean;
  left = λ trees may. elim (survives.crash clean trees may) [ inl before ↦ before | inr none ↦ absurd none ];
}

module _ (R : Database → Database → Type 0) (old mid new : State) (kept : HasCleanDisk mid → IsKept old mid) (before : Survives old mid (λ _. ⊥)) where
  -- After a fault closes the connection, the next call leaves every tree unchanged.
  shut_leaves_trees : {E : Type 0} (r : Result (Unit {0}) E) → mid.is_open ≡ false → OnOk r (EndsCommitted R mid new) → OnErr r (IsKept mid new) → Survives mid new (IsLeft R mid) → HasCleanDisk new → LeavesTrees mid new
  shut_leaves_trees r shut ok err last clean = record {
    kept = at r ok err;
    left = λ trees may. elim (last.crash clean trees may) [ inl it ↦ it | inr it ↦ absurd (let live = it.0 in cc) ];
  }
    where
      at : {E : Type 0} (r : Result (Unit {0}) E) → OnOk r (EndsCommitted R mid new) → OnErr r (IsKept mid new) → IsKept mid new
      at (Ok u) ok err = absurd (let live = ok.was_open in cc)
      at (Err e) ok err = err

  -- a read, followed by a call that leaves the tables of the current schema unchanged
  pub leaves_then : {E : Type 0} (r : Result (Unit {0}) E) → (HasCleanDisk new → OnOk r (EndsCommitted R mid new)) → (HasCleanDisk new → OnErr r (IsKept mid new)) → Survives mid new (IsLeft R mid)
      → (HasCleanDisk mid → IsTrue mid.is_open → LeavesOurs mid new) → LeavesOurs old new
  leaves_then r ok err last leaves clean stand =
      let early : HasCleanDisk mid = omega (arith, last.clean) in
      let one = only_read old mid kept before early in
      let two : LeavesTrees mid new = elim (cases_Bool mid.is_open) [
        | inl live ↦ leaves early live clean (subst StandAsMade (sym ((kept early).now_is live)) stand)
        | inr shut ↦ shut_leaves_trees r shut (ok clean) (err clean) last clean
      ] in
      record {
        kept = kept_then old mid new one.kept two.kept;
        left = λ trees may. one.left trees (two.left trees may);
      }
