use Rattle.std.proofs.Common.{map}
use Rattle.std.specs.Prelude.{filter}
use Rattle.std.specs.List.Sorted.{IsPermutation}
use Rattle.table_rows.specs.Keys.{is_lot_for}
use Rattle.row_reads.specs.Decoding.{lot_row_in}
use Rattle.row_reads.specs.RowValues.{lot_row_of}
use Rattle.row_reads.proofs.LotAnswers.{lots_of_found}
use Rattle.row_reads.proofs.AnswersOfRows.{list_answered}
use Rattle.row_reads.proofs.lots.lots_of.Goals as goal

pub returns : goal.returns
returns g c = record {
  found =
      list_answered g.S.Store c.args.conn.now c.all_of.new.conn (λ v. v.items) (map lot_row_in) _ _ c.all_of.result
      (λ t. IsPermutation (map lot_row_of (filter (is_lot_for c.args.product.now) t.lots))) (rw c.bytes.ensures.value at c.all_of.ensures.answered) (lots_of_found c.args.product.now _);
  looks = c.all_of.ensures.looks;
}
