-- The counters of a batch in the rows.
use Rattle.std.specs.Prelude.{◌==◌, ℕ, Bool, true, false, not}
use Rattle.table_rows.specs.declared.writing.Writing.{Writing}
use Rattle.table_rows.specs.declared.writing.Writing.TheVariants as writing
use Rattle.table_rows.specs.Tables.{HasTotals, Tables}
use Rattle.store_reads.specs.declared.known.BatchCounters.{BatchCounters}

-- The rows `t` have the counters `counters` for their batch.
abbrev pub AreCountersIn : Tables → BatchCounters → Type 0
AreCountersIn t counters = HasTotals counters.batch counters.totals t

-- The `Writing` changes no counters of the batch with the id `id`, and adds no batch.
abbrev pub leaves_counters : Writing → ℕ → Bool
leaves_counters (writing.AddsBatch b) id = false
leaves_counters (writing.Opens s p) id = not (p.batch == id)
leaves_counters (writing.AddsLastWord w stands p) id = not (p.batch == id)
leaves_counters (writing.Ends s p) id = not (p.batch == id)
leaves_counters (writing.Remakes p) id = not (p.batch == id)
leaves_counters (writing.Withdraws was p) id = not (p.batch == id)
leaves_counters _ id = true
