use Rattle.table_rows.specs.Tables.{with_grouping}
use Rattle.row_writes.specs.FileRows.{grouping_of}
use Rattle.row_writes.proofs.PuttingFileRows.{grouping_added}
use Rattle.row_writes.proofs.Writing.{writes}
use Rattle.row_writes.proofs.file_rows.add_grouping.Goals as goal

pub returns : goal.returns
returns g c =
    let x = grouping_of c.args.row.now in
    writes g.S.Store (with_grouping x) c.args.tx.now.conn c.execute.new.self.conn _ _ (grouping_added x _ _)
    c.execute.result c.execute.ensures.ended c.execute.ensures.same_reference c.execute.ensures.survives
    (λ clean. rw (c.grouping_values.ensures) at (c.execute.ensures.runs clean))
