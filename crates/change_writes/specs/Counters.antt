-- The counters of a batch after a write.
use Rattle.std.specs.Prelude.{◌+◌}
use Rattle.job_facts.specs.declared.rows.BatchTotals.{BatchTotals}

-- the counters, with the sum of the five states as the number of records
abbrev pub summed : BatchTotals → BatchTotals
summed n = record n { records = n.waiting + n.running + n.failed + n.withdrawn + n.good }
