-- Defines batches whose records have no faults.
use Rattle.std.specs.Prelude.{◌≡◌, ℕ, List, None}
use Rattle.store_data.specs.Groups.{with_the_key}
use Rattle.store_data.specs.RecordFaults.{record_fault}
use Rattle.store_data.specs.declared.row.Row.{Row}

-- no record of the rows has a fault; `m` is the product's `max`
abbrev pub AreSoundRecords : ℕ → List Row → Type 0
AreSoundRecords m rows = (name : List ℕ) → record_fault m (with_the_key (λ (row : Row). row.rec) rows name) ≡ None
