use Rattle.file_runs.proofs.FileLemmas.{finds, finds_first}
use Rattle.file_runs.proofs.files.runs_find_files.Goals as goal

pub returns : goal.returns
returns g c = record {
  first = λ conn wanted store b opens with. finds_first c.runs_go_on.ensures conn wanted store b opens with;
  later = λ image conn wanted store b runs opened found opens hold. finds image conn opened found b runs hold wanted store opens;
}
