use Rattle.job_facts.specs.Contents.{Mark}
use Rattle.table_rows.specs.Tables.{with_mark}
use Rattle.row_writes.proofs.Putting.{mark_added}
use Rattle.row_writes.proofs.Writing.{writes}
use Rattle.row_writes.proofs.inserts.add_mark.Goals as goal

pub returns : goal.returns
returns g c =
    let m : Mark = record { client = c.args.client.now; upto = c.args.upto } in
    writes g.S.Store (with_mark m) c.args.tx.now.conn c.execute.new.self.conn _ _ (λ count. mark_added _ _ m count)
    c.execute.result c.execute.ensures.ended c.execute.ensures.same_reference c.execute.ensures.survives
    (λ clean. rw (c.int.ensures, c.bytes.ensures.value) at (c.execute.ensures.runs clean))
