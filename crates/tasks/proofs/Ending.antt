-- Lemma: the end of a task, or of a run whose file was refused.
use Rattle.std.proofs.Common.{◌≡◌, inl, inr, subst, sym, Bool, Result, Ok, Err, IfOk, IfErr}
use Rattle.sqlite.specs.Recovery.{Image}
use Rattle.sqlite_disk.specs.declared.Disk.{Ghosts}
use Rattle.job_facts.specs.Store.{State}
use Rattle.job_facts.specs.declared.store.StoreFault.{StoreFault}
use Rattle.over_tables.specs.declared.fault.FileFault.{FileFault}
use Rattle.over_tables.specs.declared.opening.Wanted.{Wanted}
use Rattle.store_files.specs.Files.{IsNotTaken, MayHaveCommits, OverFiles, RunsOver}
use Rattle.store_files.specs.declared.file.FileState.{FileState}
use Rattle.subcommands.specs.declared.end.End.{End}
use Rattle.tasks.specs.Tasks.{EndsOver, end_of_taken}

-- A task ran, or the file was refused.
pub ends_over :
    {D : Type 0} (g : Ghosts D) (image : Image) (IsFresh : Bool → D → Type 0) (wanted : Wanted) (Ran : FileState → State → ((State → Type 0 → (StoreFault → Type 0) → Type 0) → Type 0) → End → Type 0) (taken : Result End FileFault) (end : End)
    → end ≡ end_of_taken taken → IfOk taken (λ done. OverFiles g image (λ conn. RunsOver conn (MayHaveCommits image) wanted Ran done)) → IfErr taken (IsNotTaken g image IsFresh wanted)
    → EndsOver g image IsFresh wanted Ran end
ends_over g image IsFresh wanted Ran (Ok ended) end is ran refused =
    record { how = inl (subst (λ (e : End). OverFiles g image (λ conn. RunsOver conn (MayHaveCommits image) wanted Ran e)) (sym is) ran) }
ends_over g image IsFresh wanted Ran (Err fault) end is ran refused = record { how = inr (fault, is, refused) }
