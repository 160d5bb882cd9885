use Rattle.file_runs.proofs.FileLemmas.{keeps}
use Rattle.file_runs.proofs.files.files_keep_runs.Goals as goal

pub returns : goal.returns
returns g c = λ store last es b runs image sound starts serves left. keeps g.met.D.Disk.seen_may_stay c.runs_go_on.ensures store last es b runs image sound starts serves left
