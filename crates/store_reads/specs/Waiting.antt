-- The first waiting record of a batch, from rows.
use Rattle.std.specs.Prelude.{◌≡◌, ℕ, List, Option, filter, map, option_map}
use Rattle.row_reads.specs.declared.records.RecordAt.{RecordAt}
use Rattle.row_reads.specs.CardDecoding.{place_of, record_at}
use Rattle.row_reads.specs.Extremes.{IsLeastBy}
use Rattle.table_rows.specs.Keys.{is_waiting_of}
use Rattle.table_rows.specs.Tables.{Tables}

-- `name` is the name of the waiting record with the lowest position in the batch with the id `id`,
-- or `None` if no record is waiting.
abbrev pub IsFirstWaiting : ℕ → Tables → Option (List ℕ) → Type 0
IsFirstWaiting id t name =
    (found : Option RecordAt) × IsLeastBy place_of (map record_at (filter (is_waiting_of id) t.records)) found × (name ≡ option_map (λ (r : RecordAt). r.name) found)
