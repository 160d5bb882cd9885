use Rattle.table_reads.proofs.Found.{all_found}
use Rattle.table_reads.proofs.laws.our_tables_are_found.Goals as goal

pub returns : goal.returns
returns c = all_found
