use Rattle.file_runs.proofs.FileLemmas.{refuses}
use Rattle.file_runs.proofs.files.refused_files_keep_runs.Goals as goal

pub returns : goal.returns
returns g c = λ image left conn after wanted fault b runs opened found refused hold crash.
    refuses image conn opened found b runs hold g.met.D.Disk.seen_may_stay left after wanted fault refused crash
