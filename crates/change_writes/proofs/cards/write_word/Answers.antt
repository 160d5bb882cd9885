use Rattle.std.proofs.Common.{◌+◌, arith, ◌∙◌}
use Rattle.sql_base.proofs.Ending.{wrote_then}
use Rattle.sql_base.proofs.Lasting.{outlives}
use Rattle.sql_rows.specs.Image.{Moves}
use Rattle.table_rows.specs.Tables.{StoredWord, with_session_set, with_word}
use Rattle.change_writes.proofs.Parts.{moved_on}
use Rattle.change_writes.proofs.cards.write_word.Goals as goal

pub returns : goal.returns
returns g c = record {
  wrote = λ clean.
      let w = c.args.word.now in
      let word : StoredWord = record { session = w.session; place = w.index; sw = w.sw } in
      let set = with_session_set w.session c.args.stands (w.index + 1) w.cursor in
      let one = c.in_ok-add_word.ensures.wrote (omega (arith, c.set_session.ensures.survives.clean)) in
      wrote_then (Moves (with_word word)) (Moves set) (Moves (λ t. set (with_word word t))) _ _ _ c.set_session.result
      (moved_on (with_word word) set _ _ _) one.well one.kept (rw c.from-words.ensures at (c.set_session.ensures.wrote clean));
  same_reference = c.set_session.ensures.same_reference ∙ c.add_word.ensures.same_reference;
  survives = outlives c.add_word.ensures.survives c.set_session.ensures.survives;
}
