-- A batch file without a fault: its rows, and the number of its records.
use Rattle.std.proofs.Common.{◌≡◌, ℕ, List, [], ◌∷◌, length, map, Option, Some, None, Result, Ok, Err, ap, ◌∙◌}
use Rattle.std.specs.List.{enumerate_from}
use Rattle.std.proofs.lemmas.List.{length-map}
use Rattle.store_data.specs.Groups.{first_appearances, grouped, with_the_key}
use Rattle.store_data.specs.declared.row.Product.{Product}
use Rattle.store_data.specs.declared.row.Row.{Row}
use Rattle.batch_import.specs.declared.fault.RowFault.{RowFault}
use Rattle.batch_import.specs.Batch.{batch_of, coming_of, first_record_fault, ok_unless, planned_rows, records_of_rows}
use Rattle.batch_import.proofs.OutlineLemmas.{keys_of_numbered}

abbrev by_fault : ℕ → List Row → Option RowFault → Result (List Row) RowFault
by_fault m rows o = elim o as (λ _. Result (List Row) RowFault) [ Some fault ↦ Err fault | None ↦ planned_rows m rows ]

-- The rows of the file are the rows that its reading produces.
pub rows_come : (p : Product) (raw : List ℕ) (rows : List Row) → batch_of p raw ≡ Ok rows → (coming_of p.check raw).rows ≡ rows
unfolding batch_of
rows_come p raw rows read = at (coming_of p.check raw).fault (coming_of p.check raw).rows read
  where
    unless : (o : Option RowFault) (all : List Row) → ok_unless o all ≡ Ok rows → all ≡ rows
    unless None all e = cc
    unless (Some fault) all e = absurd (cc)

    at : (o : Option RowFault) (all : List Row) → by_fault p.max all o ≡ Ok rows → all ≡ rows
    at (Some fault) all e = absurd (cc)
    at None [] e = absurd (cc)
    at None (row ∷ more) e = unless (first_record_fault p.max (records_of_rows (row ∷ more))) (row ∷ more) e

-- The number of records is the number of different record names.
pub each_record_named : (rows : List Row) → length (records_of_rows rows) ≡ length (first_appearances (map (λ (row : Row). row.rec) rows))
unfolding grouped
each_record_named rows =
    let key = λ (e : ℕ × Row). e.1.rec in
    length-map (first_appearances (map key (enumerate_from 2 rows))) (with_the_key key (enumerate_from 2 rows)) ∙ ap (λ names. length (first_appearances names)) (keys_of_numbered 2 rows)
