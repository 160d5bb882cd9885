use Rattle.std.proofs.Common.{map}
use Rattle.std.specs.List.Sorted.{IsPermutation}
use Rattle.table_rows.specs.Tables.{StoredLot}
use Rattle.row_reads.specs.Decoding.{lot_in}
use Rattle.row_reads.proofs.LotAnswers.{lots_found}
use Rattle.row_reads.proofs.AnswersOfRows.{list_answered}
use Rattle.row_reads.proofs.lots.all_lots.Goals as goal

pub returns : goal.returns
returns g c = record {
  found =
      list_answered g.S.Store c.args.conn.now c.all_of.new.conn (λ v. v.items) (map lot_in) _ _ c.all_of.result
      (λ t. IsPermutation (map (λ (l : StoredLot). l.lot) t.lots)) c.all_of.ensures.answered (lots_found _);
  looks = c.all_of.ensures.looks;
}
