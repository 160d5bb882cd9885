use Rattle.std.proofs.Common.{◌≡◌, List, [], false}
use Rattle.sqlite.specs.Given.{HasGiven}
use Rattle.sqlite.specs.Held.{state}
use Rattle.sqlite.specs.Order.{Row}
use Rattle.sqlite.specs.State.{HasCleanDisk, IsUnchanged, Survives}
use Rattle.table_reads.specs.Streaming.{StandSoFar}
use Rattle.table_reads.proofs.streaming.rising.Given as goal

abbrev pub invariant-rows : goal.invariant-rows
invariant-rows g l =
    let old = state g.S.Store l.fn.conn in
    let now = state g.S.Store l.rows.conn.now in
    record {
      same_reference : l.rows.conn.ghost_name ≡ l.initial.rows.conn.ghost_name;
      idle : l.rows.conn.now.in_transaction ≡ false;
      survives : Survives old now (λ _. ⊥);
      given : HasCleanDisk now → (rows : List Row) × HasGiven g.S.Store l.sql [] l.rows.conn.now rows × IsUnchanged old now × StandSoFar g.C.Conversion.gives rows l.so_far.values.items l.so_far.last_rowid;
    }
