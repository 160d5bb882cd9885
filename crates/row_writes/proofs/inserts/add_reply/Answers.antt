use Rattle.sql_base.proofs.Ending.{wrote}
use Rattle.sql_rows.specs.Image.{Moves}
use Rattle.job_facts.specs.Kept.{kept_reply}
use Rattle.table_rows.specs.Tables.{with_reply}
use Rattle.row_writes.proofs.Putting.{reply_added}
use Rattle.row_writes.proofs.inserts.add_reply.Goals as goal

pub returns : goal.returns
returns g c = record {
  wrote = λ clean.
      let e = kept_reply c.args.entry.now in
      wrote g.S.Store (Moves (with_reply e)) c.args.tx.now.conn.now c.execute.new.self.conn.now _ _ _ (λ count. reply_added _ _ e count) c.execute.result c.execute.ensures.ended
      (rw (c.int.ensures, c.int-2.ensures, c.from.ensures, c.bytes.ensures.value) at (c.execute.ensures.runs clean));
  same_reference = c.execute.ensures.same_reference;
  survives = c.execute.ensures.survives;
}
