use Rattle.std.proofs.Common.{arith, ◌∙◌}
use Rattle.sql_base.proofs.Lasting.{outlives}
use Rattle.sql_rows.specs.Image.{Moves}
use Rattle.table_rows.specs.After.{stopped, word_rows_after}
use Rattle.change_writes.proofs.Parts.{moved_on, wrote_on}
use Rattle.change_writes.proofs.cards.write_last_word.Goals as goal

pub returns : goal.returns
returns g c = record {
  wrote = λ clean.
      let v = c.args in
      let taken = word_rows_after v.word.now v.stands in
      let stop = stopped v.place.now v.stands in
      let one = c.in_ok-write_word.ensures.wrote (omega (arith, c.write_stop.ensures.survives.clean)) in
      wrote_on (Moves taken) (Moves stop) (Moves (λ t. stop (taken t))) _ _ _ c.write_stop.result (moved_on taken stop _ _ _) one.well one.kept (c.write_stop.ensures.wrote clean);
  same_reference = c.write_stop.ensures.same_reference ∙ c.write_word.ensures.same_reference;
  survives = outlives c.write_word.ensures.survives c.write_stop.ensures.survives;
}
