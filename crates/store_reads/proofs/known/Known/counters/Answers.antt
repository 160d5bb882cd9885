use Rattle.store_reads.proofs.Counted.{counters_of_known}
use Rattle.store_reads.proofs.known.Known.counters.Goals as goal

pub returns-clause-known : goal.returns-clause-known
returns-clause-known c =
    counters_of_known c.args.self.now c.args.batch.now c.in_ok-record.record.now c.in_ok-record.ensures.known c.in_ok-record.ensures.batch c.counters_at.result c.counters_at.ensures.known c.counters_at.ensures.id
