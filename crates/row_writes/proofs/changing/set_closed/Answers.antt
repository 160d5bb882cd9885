use Rattle.table_rows.specs.Tables.{with_closed_set}
use Rattle.row_writes.proofs.Setting.{closed_changed}
use Rattle.row_writes.proofs.Writing.{writes}
use Rattle.row_writes.proofs.changing.set_closed.Goals as goal

pub returns : goal.returns
returns g c =
    let a = c.args in
    writes g.S.Store (with_closed_set a.name.now) a.tx.now.conn c.execute.new.self.conn _ _ (closed_changed a.name.now _ _)
    c.execute.result c.execute.ensures.ended c.execute.ensures.same_reference c.execute.ensures.survives
    (λ clean. rw (c.bytes.ensures.value) at (c.execute.ensures.runs clean))
