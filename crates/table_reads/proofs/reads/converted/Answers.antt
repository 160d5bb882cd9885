use Rattle.table_reads.proofs.Looking.{◌▷◌}
use Rattle.table_reads.proofs.reads.converted.Goals as goal

pub returns-clause-looks : goal.returns-clause-looks
returns-clause-looks g c = c.streamed.ensures.looks ▷ c.collected.ensures.looks
