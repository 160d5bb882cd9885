use Rattle.batch_import.proofs.WideLemmas.{wide-header}
use Rattle.batch_import.proofs.stream.read_header.Goals as goal

pub returns-then-is_wide : goal.returns-then-is_wide
returns-then-is_wide c = λ check. wide-header check c.args.records.now c.fault_at.result (c.is_wide.ensures c.if-is_wide.true) c.fault_at.ensures
