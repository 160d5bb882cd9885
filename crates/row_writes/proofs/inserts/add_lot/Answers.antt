use Rattle.table_rows.specs.After.{new_lot}
use Rattle.table_rows.specs.Tables.{with_lot}
use Rattle.row_writes.proofs.Putting.{lot_added}
use Rattle.row_writes.proofs.Writing.{writes}
use Rattle.row_writes.proofs.inserts.add_lot.Goals as goal

pub returns : goal.returns
returns g c =
    let l = c.args.lot.now in
    writes g.S.Store (with_lot (new_lot l)) c.args.tx.now.conn c.execute.new.self.conn _ _ (λ count. lot_added _ _ l count)
    c.execute.result c.execute.ensures.ended c.execute.ensures.same_reference c.execute.ensures.survives
    (λ clean. rw (c.int.ensures, c.int-2.ensures, c.from.ensures, c.bytes.ensures.value, c.bytes-2.ensures.value) at (c.execute.ensures.runs clean))
