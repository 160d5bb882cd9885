use Rattle.table_rows.specs.Tables.{with_record}
use Rattle.row_writes.specs.FileRows.{record_of}
use Rattle.row_writes.proofs.PuttingFileRows.{record_added}
use Rattle.row_writes.proofs.Writing.{writes}
use Rattle.row_writes.proofs.file_rows.add_record.Goals as goal

pub returns : goal.returns
returns g c =
    let x = record_of c.args.it.now in
    writes g.S.Store (with_record x) c.args.tx.now.conn c.execute.new.self.conn _ _ (record_added x _ _)
    c.execute.result c.execute.ensures.ended c.execute.ensures.same_reference c.execute.ensures.survives
    (λ clean. rw (c.record_values.ensures) at (c.execute.ensures.runs clean))
