use Rattle.tasks.proofs.Ending.{ends_over}
use Rattle.tasks.proofs.files.over_file.Goals as goal

pub returns : goal.returns
returns g c = ends_over _ _ _ _ _ c.with_store-taken.result c.end_of_taken.result c.end_of_taken.ensures c.with_store-taken.ensures.done c.with_store-taken.ensures.not_taken
