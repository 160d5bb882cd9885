use Rattle.table_rows.specs.Tables.{with_totals_set}
use Rattle.row_writes.proofs.Setting.{totals_changed}
use Rattle.row_writes.proofs.Writing.{writes}
use Rattle.row_writes.proofs.changing.set_totals.Goals as goal

pub returns : goal.returns
returns g c =
    let a = c.args in
    writes g.S.Store (with_totals_set a.batch a.totals.now) a.tx.now.conn c.execute.new.self.conn _ _ (totals_changed a.batch a.totals.now _ _)
    c.execute.result c.execute.ensures.ended c.execute.ensures.same_reference c.execute.ensures.survives
    (λ clean. rw (c.int.ensures, c.int-2.ensures, c.int-3.ensures, c.int-4.ensures, c.int-5.ensures, c.int-6.ensures, c.int-7.ensures, c.int-8.ensures) at (c.execute.ensures.runs clean))
