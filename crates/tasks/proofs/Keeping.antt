-- Lemmas: what a run of a server finds in its files, and leaves there.
use Rattle.std.proofs.Common.{◌⊎◌, Bool, List, [], inl, inr, arith}
use Rattle.sqlite.specs.Files.{IsOpened, file_state, over_files}
use Rattle.sqlite.specs.Held.{Held}
use Rattle.sqlite.specs.Recovery.{Image}
use Rattle.sqlite.specs.Start.{FindsIn}
use Rattle.sqlite.specs.State.{HasCleanDisk}
use Rattle.sqlite.specs.declared.FileStore.{FileStore}
use Rattle.sqlite_disk.specs.declared.Disk.{Ghosts}
use Rattle.job_facts.specs.Store.{State}
use Rattle.job_facts.specs.declared.store.StoreFault.{StoreFault}
use Rattle.reply_store.specs.Runs.{AreLeftInTurn}
use Rattle.schema.specs.Stores.{stands_for}
use Rattle.schema.specs.declared.store.SqlStore.{SqlStore}
use Rattle.server.specs.Exchanges.{Exchange, ServesAll, tries}
use Rattle.server_run.proofs.RunLemmas.{serves-begun}
use Rattle.over_tables.specs.declared.fault.FileFault.{FileFault}
use Rattle.over_tables.specs.declared.opening.Wanted.{Wanted}
use Rattle.store_files.specs.Files.{IsNotTaken, IsPlainIfNew, IsTurnedDown, MayHaveCommits, OverFiles, RunsOver}
use Rattle.store_files.specs.Wal.{IsWholeWal}
use Rattle.store_files.specs.declared.file.FileState.{FileState}
use Rattle.file_runs.specs.Files.{FindRuns, LeaveRuns, RefuseRuns}
use Rattle.subcommands.specs.declared.end.End.{End}
use Rattle.tasks.specs.Tasks.{EndsOver, IsNotRun, KeepsFiles, KeepsOver, KeepsReported, KeepsRuns, LacksPort, RefusesRuns, ReportsBatch, ReportsOver, Serves, ServesFile, ServesOver, exchanges_of}
use Rattle.tasks.specs.declared.store_tasks.ReportTask.{ReportTask}
use Rattle.tasks.specs.declared.store_tasks.ServeTask.{ServeTask}

module _ {D : Type 0} {g : Ghosts D} (turns : AreLeftInTurn (stands_for {S = FileStore D g} over_files)) (find : FindRuns g) (leave : LeaveRuns g) (refuse : RefuseRuns g) (image : Image) (IsFresh : Bool → D → Type 0) (wanted : Wanted)
    (end : End) where
  -- a task whose end shows which connections it served
  module _ (Ran : FileState → State → ((State → Type 0 → (StoreFault → Type 0) → Type 0) → Type 0) → End → Type 0) where
    keeps_files : (conn : Held (FileStore D g)) → (HasCleanDisk (file_state conn) → IsOpened conn × FindsIn image (file_state conn) × IsPlainIfNew g image conn × IsWholeWal image)
        → (run : RunsOver conn (MayHaveCommits image) wanted Ran end) (last : SqlStore (FileStore D g) over_files) (es : List Exchange) → ServesAll (stands_for over_files run.store) (stands_for over_files last) es
        → KeepsFiles image wanted conn run.store last (tries es)
    keeps_files conn files run last es serves = record {
      begins = λ clean c with. find.first conn wanted run.store c (run.opened clean) with;
      finds = λ clean c runs hold. let it = files (run.clean clean) in find.later image conn wanted run.store c runs it.0 it.1 (run.opened clean) hold;
      keeps = λ c runs left sound starts is. leave run.store last es c runs left sound starts serves is;
    }

  refuses_runs : (fault : FileFault) → OverFiles g image (λ conn. IsTurnedDown conn wanted fault) → OverFiles g image (RefusesRuns image wanted fault)
  refuses_runs fault (conn, files, (after, refused)) = (
    conn,
    files,
    record {
      after = after;
      refused = refused;
      keeps = λ c runs left hold crash.
          let clean : HasCleanDisk (file_state after) = omega (arith, crash.closed.quiet.clean, crash.clean) in
          let it = files (refused.clean clean) in
          refuse image left conn after wanted fault c runs it.0 it.1 refused hold crash;
    },
  )

  not_run : (fault : FileFault) → IsNotTaken g image IsFresh wanted fault → IsNotRun g image IsFresh wanted fault
  not_run fault (inl absent) = inl absent
  not_run fault (inr (inl not_begun)) = inr (inl not_begun)
  not_run fault (inr (inr turned_down)) = inr (inr (refuses_runs fault turned_down))

  keeps_over :
      (Ran : FileState → State → ((State → Type 0 → (StoreFault → Type 0) → Type 0) → Type 0) → End → Type 0) (Keeps : Held (FileStore D g) → Type 0)
      → (OverFiles g image (λ conn. RunsOver conn (MayHaveCommits image) wanted Ran end) → OverFiles g image Keeps) → EndsOver g image IsFresh wanted Ran end → KeepsOver g image IsFresh wanted Keeps end
  keeps_over Ran Keeps keeps ends = record {
    how = elim ends.how [
      | inl ran ↦ inl (keeps ran)
      | inr refused ↦ inr (refused.0, refused.1, not_run refused.0 refused.2)
    ];
  }

  module _ (task : ServeTask) where
    served : (found : FileState) (store last : SqlStore (FileStore D g) over_files) (whole : Type 0) (Unclosed : StoreFault → Type 0)
        → (ran : ServesFile task found (stands_for over_files store) (stands_for over_files last) whole Unclosed end ⊎ LacksPort task (stands_for over_files store) (stands_for over_files last) whole Unclosed end)
        → ServesAll (stands_for over_files store) (stands_for over_files last) (exchanges_of ran)
    served found store last whole Unclosed (inl serves) = serves.serves
    served found store last whole Unclosed (inr lacks) = serves-begun (stands_for over_files) turns store last lacks.stays

    pub serves_over : EndsOver g image IsFresh wanted (Serves task) end → ServesOver g image IsFresh wanted task end
    serves_over = keeps_over (Serves task) (KeepsRuns image wanted task end)
        (λ it. (it.0, it.1, record { run = it.2; files = keeps_files (Serves task) it.0 it.1 it.2 it.2.ran.0 (exchanges_of it.2.ran.1) (served it.2.found it.2.store it.2.ran.0 _ _ it.2.ran.1) }))

  module _ (task : ReportTask) where
    pub reports_over : EndsOver g image IsFresh wanted (ReportsBatch task) end → ReportsOver g image IsFresh wanted task end
    reports_over = keeps_over (ReportsBatch task) (KeepsReported image wanted task end)
        (λ it. (it.0, it.1, record { run = it.2; files = keeps_files (ReportsBatch task) it.0 it.1 it.2 it.2.ran.0 [] (serves-begun (stands_for over_files) turns it.2.store it.2.ran.0 it.2.ran.1.stays) }))
