use Rattle.std.proofs.Common.{ℕ, ◌-◌, ◌≤◌, Bool, List, length}
use Rattle.store_data.specs.declared.row.Row.{Row}
use Rattle.change_writes.specs.Imports.{IsTaken, TakesRows}
use Rattle.change_writes.proofs.imports.next_rows.Given as goal

abbrev pub invariant-loop-stream : goal.invariant-loop-stream
invariant-loop-stream l = record {
  some : length l.next.rows.items ≤ 16;
  rows : (check : Bool) (raw : List ℕ) (taken : List Row) → IsTaken check raw taken l.fn.names.keys l.line l.fn.stream
      → TakesRows check raw taken l.batch l.fn.names.keys l.line l.next.rows.items l.next.records.items l.names.keys l.stream;
}

abbrev pub decreases-loop-stream : goal.decreases-loop-stream
decreases-loop-stream l = 16 - length l.next.rows.items
