use Rattle.std.proofs.Common.{[]}
use Rattle.table_rows.specs.After.{new_batch}
use Rattle.table_rows.specs.Tables.{with_batch}
use Rattle.row_writes.proofs.PuttingBatches.{batch_added}
use Rattle.row_writes.proofs.Writing.{writes}
use Rattle.row_writes.proofs.batches.add_batch.Goals as goal

pub returns : goal.returns
returns g c =
    let a = c.args in
    writes g.S.Store (with_batch (new_batch a.id a.name.now a.product.now [] a.records)) c.args.tx.now.conn c.execute.new.self.conn _ _ (batch_added a.id a.name.now a.product.now [] a.records _ _)
    c.execute.result c.execute.ensures.ended c.execute.ensures.same_reference c.execute.ensures.survives
    (λ clean. rw (c.int.ensures, c.int-2.ensures, c.from.ensures, c.bytes.ensures.value, c.bytes-2.ensures.value) at (c.execute.ensures.runs clean))
