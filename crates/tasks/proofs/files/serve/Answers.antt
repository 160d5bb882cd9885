use Rattle.tasks.proofs.Keeping.{serves_over}
use Rattle.tasks.proofs.files.serve.Goals as goal

pub returns : goal.returns
returns g c =
    serves_over c.left_in_turn.ensures c.runs_find_files.ensures c.files_keep_runs.ensures c.refused_files_keep_runs.ensures _ _ c.args.wanted c.over_file.result c.args.task c.over_file.ensures
