use Rattle.table_rows.specs.After.{rows_written}
use Rattle.store_reads.proofs.Counted.{known_with_counters}
use Rattle.schema.proofs.keeping.note_counters.Goals as goal

pub returns-in-Some : goal.returns-in-Some
returns-in-Some c t entry all =
    known_with_counters (rows_written c.args.writing.now entry t) c.args.known.now c.cache_counters.new.self (record { batch = c.in-Some.batch; totals = c.in-Some.totals }) all
    ((rw c.in-Some.is at c.counters_after.ensures.totals) t entry) c.cache_counters.ensures.records c.cache_counters.ensures.standing c.cache_counters.ensures.counted
