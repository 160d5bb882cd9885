use Rattle.table_rows.specs.Tables.{with_product}
use Rattle.row_writes.proofs.Putting.{product_added}
use Rattle.row_writes.proofs.Writing.{writes}
use Rattle.row_writes.proofs.inserts.add_product.Goals as goal

pub returns : goal.returns
returns g c =
    let p = c.args.product.now in
    writes g.S.Store (with_product p) c.args.tx.now.conn c.execute.new.self.conn _ _ (λ count. product_added _ _ p count)
    c.execute.result c.execute.ensures.ended c.execute.ensures.same_reference c.execute.ensures.survives
    (λ clean. rw (c.int.ensures, c.int-2.ensures, c.int-3.ensures, c.from.ensures, c.from-2.ensures, c.from-3.ensures, c.bytes.ensures.value) at (c.execute.ensures.runs clean))
