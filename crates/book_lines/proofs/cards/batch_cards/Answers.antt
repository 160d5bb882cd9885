use Rattle.std.proofs.Common.{◌≡◌, All, subst, sym}
use Rattle.table_rows.specs.Tables.{StoredRecord}
use Rattle.book_lines.proofs.CardLemmas.{of_batch}
use Rattle.book_lines.proofs.cards.batch_cards.Goals as goal

pub add_records-requires-clause-records : goal.add_records-requires-clause-records
add_records-requires-clause-records c =
    subst (All (λ (r : StoredRecord). r.batch ≡ c.batch.inside.id)) (sym c.range_of-records.ensures) (of_batch c.batch.inside.id c.deref-2.result.now)
