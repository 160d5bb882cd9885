-- The rows of one record of a batch.
use Rattle.std.proofs.Common.{◌≡◌, ℕ, ◌≤◌, List, length, All, sym, subst, arith}
use Rattle.std.specs.Prelude.{bytes_eq}
use Rattle.std.proofs.lemmas.List.Elements.{All-filter}
use Rattle.std.proofs.lemmas.List.Sums.{count_by-le-length, length-filter}
use Rattle.store_data.specs.declared.row.Product.{Product}
use Rattle.store_data.specs.declared.row.Row.{Row}
use Rattle.store_data.specs.RecordFaults.{HavePlan}
use Rattle.store_data.specs.Sequence.{IsProduct, IsRow}
use Rattle.batch_import.specs.SoundRecords.{AreSoundRecords}
use Rattle.job_facts.specs.States.{rows_of_record}

pub HavePlan-of_record : (p : Product) (rows made : List Row) (r : List ℕ) → made ≡ rows_of_record rows r → IsProduct p → length rows ≤ 4096 → All IsRow rows
    → AreSoundRecords p.max rows → HavePlan p made
HavePlan-of_record p rows made r e product few each sound = subst (HavePlan p) (sym e) (record {
  product = product;
  few = omega (arith, few, length-filter (λ (row : Row). bytes_eq row.rec r) rows, count_by-le-length (λ (row : Row). bytes_eq row.rec r) rows);
  each = All-filter (λ (row : Row). bytes_eq row.rec r) IsRow rows each;
  none = sound r;
})
