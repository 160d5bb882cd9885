use Rattle.std.proofs.Common.{◌≡◌, ◌-◌, ℕ, List, Bool, Ok}
use Rattle.sqlite.specs.State.{HasCleanDisk, KeepsCommit, Survives}
use Rattle.sqlite.specs.Held.{state}
use Rattle.batch_import.specs.Batch.{coming_of}
use Rattle.change_writes.specs.Imports.{IsImported}
use Rattle.change_writes.proofs.imports.add_stream.Given as goal

abbrev pub invariant-loop-next : goal.invariant-loop-next
invariant-loop-next g l = record {
  same_reference : l.tx.conn.ghost_name ≡ l.fn.tx.conn.ghost_name;
  imported : (check : Bool) (raw : List ℕ) → l.fn.stream ≡ Ok (coming_of check raw)
      → IsImported check raw l.batch l.names.keys l.line l.stream (state g.S.Store l.fn.tx.conn.now) (state g.S.Store l.tx.conn.now);
  kept : HasCleanDisk (state g.S.Store l.tx.conn.now) → KeepsCommit (state g.S.Store l.fn.tx.conn.now) (state g.S.Store l.tx.conn.now);
  survives : Survives (state g.S.Store l.fn.tx.conn.now) (state g.S.Store l.tx.conn.now) (λ _. ⊥);
}

-- A batch file has at most 4,096 data rows.
abbrev pub decreases-loop-next : goal.decreases-loop-next
decreases-loop-next g l = 4098 - l.line
