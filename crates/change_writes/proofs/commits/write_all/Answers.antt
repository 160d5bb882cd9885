use Rattle.std.proofs.Common.{arith, ◌∙◌}
use Rattle.sql_base.proofs.Lasting.{outlives}
use Rattle.sql_rows.specs.Image.{Moves}
use Rattle.table_rows.specs.After.{rows_after, rows_written}
use Rattle.job_facts.specs.Kept.{kept_reply}
use Rattle.table_rows.specs.Tables.{with_reply}
use Rattle.change_writes.proofs.Parts.{many_then, moved_on}
use Rattle.change_writes.proofs.commits.write_all.Goals as goal

pub returns : goal.returns
returns g c = record {
  wrote = λ clean.
      let w = c.args.writing.now in
      let kept = kept_reply c.args.entry.now in
      let one = c.in_ok-write_change.ensures.wrote (omega (arith, c.add_reply.ensures.survives.clean)) in
      many_then (Moves (rows_after w)) (Moves (with_reply kept)) (Moves (rows_written w kept)) _ _ _ c.add_reply.result (moved_on (rows_after w) (with_reply kept) _ _ _) one.well one.kept (c.add_reply.ensures.wrote clean);
  same_reference = c.add_reply.ensures.same_reference ∙ c.write_change.ensures.same_reference;
  survives = outlives c.write_change.ensures.survives c.add_reply.ensures.survives;
}
