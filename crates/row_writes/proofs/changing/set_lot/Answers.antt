use Rattle.table_rows.specs.Tables.{with_lot_set}
use Rattle.row_writes.proofs.Setting.{lot_changed}
use Rattle.row_writes.proofs.Writing.{writes}
use Rattle.row_writes.proofs.changing.set_lot.Goals as goal

pub returns : goal.returns
returns g c =
    let a = c.args in
    writes g.S.Store (with_lot_set a.name.now a.discarded) a.tx.now.conn c.execute.new.self.conn _ _ (lot_changed a.name.now a.discarded _ _)
    c.execute.result c.execute.ensures.ended c.execute.ensures.same_reference c.execute.ensures.survives
    (λ clean. rw (c.int.ensures, c.bytes.ensures.value) at (c.execute.ensures.runs clean))
