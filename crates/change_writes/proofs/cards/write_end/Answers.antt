use Rattle.std.proofs.Common.{arith, ◌∙◌}
use Rattle.job_facts.specs.declared.facts.SessionState.TheVariants as session
use Rattle.sql_base.proofs.Ending.{wrote_then}
use Rattle.sql_base.proofs.Lasting.{outlives}
use Rattle.sql_rows.specs.Image.{Moves}
use Rattle.table_rows.specs.After.{stopped}
use Rattle.table_rows.specs.Tables.{with_end_set}
use Rattle.change_writes.proofs.Parts.{moved_on}
use Rattle.change_writes.proofs.cards.write_end.Goals as goal

pub returns : goal.returns
returns g c = record {
  wrote = λ clean.
      let v = c.args in
      let after = stopped v.place.now session.Spoiled in
      let one = c.in_ok-set_end.ensures.wrote (omega (arith, c.write_spoiled.ensures.survives.clean)) in
      wrote_then (Moves (with_end_set v.session)) (Moves after) (Moves (λ t. after (with_end_set v.session t))) _ _ _ c.write_spoiled.result
      (moved_on (with_end_set v.session) after _ _ _) one.well one.kept (c.write_spoiled.ensures.wrote clean);
  same_reference = c.write_spoiled.ensures.same_reference ∙ c.set_end.ensures.same_reference;
  survives = outlives c.set_end.ensures.survives c.write_spoiled.ensures.survives;
}
