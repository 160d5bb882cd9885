use Rattle.batch_import.proofs.MarkLemmas.{batch_alike, third_mark_alike}
use Rattle.batch_import.proofs.laws.more_marks_read_alike.Goals as goal

pub returns-clause-more : goal.returns-clause-more
returns-clause-more c = batch_alike

pub returns-clause-third : goal.returns-clause-third
returns-clause-third c = third_mark_alike
