use Rattle.import_causes.proofs.PairLemmas.{ranks-of}
use Rattle.import_causes.proofs.pair.overflows.Goals as goal

pub check_record-requires-clause-ranks : goal.check_record-requires-clause-ranks
check_record-requires-clause-ranks c = ranks-of c.args.rows.now c.in_ok-summaries.field-0.items c.in_ok-summaries.ensures c.requires.rows.each
