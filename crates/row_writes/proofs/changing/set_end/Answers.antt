use Rattle.table_rows.specs.Tables.{with_end_set}
use Rattle.row_writes.proofs.Setting.{end_changed}
use Rattle.row_writes.proofs.Writing.{writes}
use Rattle.row_writes.proofs.changing.set_end.Goals as goal

pub returns : goal.returns
returns g c =
    let a = c.args in
    writes g.S.Store (with_end_set a.session) a.tx.now.conn c.execute.new.self.conn _ _ (end_changed a.session _ _)
    c.execute.result c.execute.ensures.ended c.execute.ensures.same_reference c.execute.ensures.survives
    (λ clean. rw (c.int.ensures) at (c.execute.ensures.runs clean))
