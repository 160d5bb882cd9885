use Rattle.std.proofs.Common.{◌≡◌, [], ◌∷◌, subst}
use Rattle.std.proofs.lemmas.List.Sorted.{IsPermutation-refl}
use Rattle.table_rows.specs.Tables.{HaveSameRows, StoredBlank, StoredLot, Tables}
use Rattle.audit_order.proofs.OrderLemmas.{first_rising}
use Rattle.audit_order.proofs.sorting.sort_tables.Goals as goal

seen : (t u v : Tables) → u ≡ t → HaveSameRows u v → HaveSameRows t v
seen t u v is same = subst (λ (w : Tables). HaveSameRows w v) is same

pub returns-in_err-sort_rows-3-clause-same : goal.returns-in_err-sort_rows-3-clause-same
returns-in_err-sort_rows-3-clause-same c = seen _ _ _ c.tables.view_is (search IsPermutation-refl)

pub returns-in_err-sort_rows-6-clause-same : goal.returns-in_err-sort_rows-6-clause-same
returns-in_err-sort_rows-6-clause-same c = seen _ _ _ c.tables.view_is (search IsPermutation-refl)

pub returns-clause-sorted : goal.returns-clause-sorted
returns-clause-sorted c = record {
  in_order = record {
    batches = c.in_ok-sort_rows-2.ensures.ordered;
    records = c.in_ok-sort_rows-3.ensures.ordered;
    groupings = c.in_ok-sort_rows-4.ensures.ordered;
    sessions = c.in_ok-sort_rows-5.ensures.ordered;
    words = c.in_ok-sort_rows-6.ensures.ordered;
    remakes = c.in_ok-sort_rows-8.ensures.ordered;
  };
  lots = first_rising (λ (l : StoredLot). l.lot.first) (λ (l : StoredLot). 0 ∷ 0 ∷ []) _ c.in_ok-sort_rows.ensures.ordered;
  blanks = first_rising (λ (b : StoredBlank). b.serial) (λ (b : StoredBlank). 0 ∷ 0 ∷ []) _ c.in_ok-sort_rows-7.ensures.ordered;
}
