use Rattle.table_rows.specs.Tables.{without_replies}
use Rattle.row_writes.proofs.Removing.{replies_dropped}
use Rattle.row_writes.proofs.Writing.{writes}
use Rattle.row_writes.proofs.releases.drop_replies.Goals as goal

pub returns : goal.returns
returns g c =
    let a = c.args in
    writes g.S.Store (without_replies a.client.now a.upto) a.tx.now.conn c.execute.new.self.conn _ _ (replies_dropped a.client.now a.upto _ _)
    c.execute.result c.execute.ensures.ended c.execute.ensures.same_reference c.execute.ensures.survives
    (λ clean. rw (c.int.ensures, c.bytes.ensures.value) at (c.execute.ensures.runs clean))
