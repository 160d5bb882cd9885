use Rattle.std.specs.Prelude.{min}
use Rattle.row_reads.specs.declared.lots.TheConstants.{MOST_SERIAL}
use Rattle.row_reads.proofs.LotAnswers.{last_lot_found}
use Rattle.row_reads.proofs.AnswersOfRows.{answered_by}
use Rattle.row_reads.proofs.lots.last_lot.Goals as goal

pub returns : goal.returns
returns g c = record {
  found = answered_by g.S.Store c.args.conn.now c.one_of.new.conn _ _ c.one_of.result _ _ (rw (c.int.ensures, c.min-serial.ensures) at c.one_of.ensures.answered) (last_lot_found (min c.args.blank MOST_SERIAL) _);
  looks = c.one_of.ensures.looks;
}
