use Rattle.table_rows.specs.Tables.{without_mark}
use Rattle.row_writes.proofs.Removing.{mark_dropped}
use Rattle.row_writes.proofs.Writing.{writes}
use Rattle.row_writes.proofs.releases.drop_mark.Goals as goal

pub returns : goal.returns
returns g c =
    let a = c.args in
    writes g.S.Store (without_mark a.client.now) a.tx.now.conn c.execute.new.self.conn _ _ (mark_dropped a.client.now _ _)
    c.execute.result c.execute.ensures.ended c.execute.ensures.same_reference c.execute.ensures.survives
    (λ clean. rw (c.bytes.ensures.value) at (c.execute.ensures.runs clean))
