-- The results of the tasks over the store in a database file (this project's profile). The bytes of
-- the process's own streams are unknown.
use Rattle.std.proofs.Common.{inl, inr}
use Rattle.std.specs.Prelude.{◌≡◌, ◌⊎◌, Bool, List, [], ◌∷◌, ◌++◌, false, length, None, IfErr, OnOk, Result, Ok, Err, ⊤}
use Rattle.std.specs.declared.io.ErrorKind.{ErrorKind}
use Rattle.sqlite.specs.Files.{file_state, over_files}
use Rattle.sqlite.specs.Held.{Held}
use Rattle.sqlite.specs.Recovery.{Image}
use Rattle.sqlite.specs.State.{HasCleanDisk}
use Rattle.sqlite.specs.declared.FileStore.{FileStore}
use Rattle.sqlite_disk.specs.declared.Disk.{Ghosts}
use Rattle.event_lines.specs.Notes.{NotesAll}
use Rattle.job_facts.specs.declared.refusal.Refusal.TheVariants.{BatchUnknown}
use Rattle.job_facts.specs.declared.store.StoreFault.{StoreFault}
use Rattle.job_facts.specs.Contents.{AreSound, Contents}
use Rattle.job_facts.specs.Store.{CountsFaults, State, Stays}
use Rattle.reply_store.specs.Runs.{Tried}
use Rattle.reports.specs.Answers.{MayReport, Reports, store_answer}
use Rattle.reports.specs.Report.{report_text}
use Rattle.reports.specs.declared.fault.AccountFault.{AccountFault}
use Rattle.schema.specs.Stores.{connection, stands_for}
use Rattle.schema.specs.declared.store.SqlStore.{SqlStore}
use Rattle.server.specs.Exchanges.{Exchange, ServesAll, tries}
use Rattle.server_run.specs.ObservedRuns.{NotesRun}
use Rattle.server_run.specs.ServerLines.{WritesLines}
use Rattle.server_run.specs.declared.opening.Opened.{Opened}
use Rattle.server_run.specs.declared.stopping.ServeStop.{ServeStop}
use Rattle.over_tables.specs.Opens.{IsOpenedWith}
use Rattle.over_tables.specs.Refusals.{IsRefused}
use Rattle.over_tables.specs.declared.fault.FileFault.{FileFault}
use Rattle.over_tables.specs.declared.opening.Wanted.{Wanted}
use Rattle.store_files.specs.Files.{IsAbsent, IsNotBegun, IsNotTaken, MayHaveCommits, OverFiles, RunsOver}
use Rattle.store_files.specs.declared.file.FileState.{FileState}
use Rattle.file_runs.specs.Files.{HoldRuns, IsLeftBy, IsLeftByCrash}
use Rattle.file_runs.specs.Runs.{StartsAfterRuns}
use Rattle.subcommands.specs.Ends.{end_of_account, end_of_file, end_of_serve_stop}
use Rattle.subcommands.specs.Joins.{end_of_close}
use Rattle.subcommands.specs.Unstarted.{end_of_port, unstarted_line}
use Rattle.subcommands.specs.declared.end.End.{End}
use Rattle.subcommands.specs.declared.end.End.TheVariants.{Done}
use Rattle.tasks.specs.declared.store_tasks.ReportTask.{ReportTask}
use Rattle.tasks.specs.declared.store_tasks.ServeTask.{ServeTask}

-- The run ends with `last`, or with the fault if the store can't be closed. If it is closed,
-- `whole` is true: the database file is complete. Otherwise `Unclosed` is true of the fault.
abbrev pub EndsClosed : Type 0 → (StoreFault → Type 0) → End → End → Type 0
EndsClosed whole Unclosed last end =
    (closing : Result (Unit {0}) StoreFault) × OnOk closing whole × IfErr closing Unclosed × (end ≡ end_of_close last closing)

-- ---- `serve`

abbrev pub end_of_serve : Result (Unit {0}) ServeStop → End
end_of_serve (Ok u) = Done
end_of_serve (Err stop) = end_of_serve_stop stop

-- The event line about the database file has the path of the task, and says how the file was found.
abbrev pub IsOpening : ServeTask → FileState → Opened → Type 0
IsOpening task found opened = (opened.path.now ≡ task.path.now) × (opened.is_new ≡ found.is_new) × (opened.has_log ≡ found.has_log) × (opened.older ≡ found.older)

-- Connections were served over the store, and the store was closed.
pub record ServesFile (task : ServeTask) (found : FileState) (old last : State) (whole : Type 0) (Unclosed : StoreFault → Type 0) (end : End) : Type 0 where
  pub opened : Opened
  pub exchanges : List Exchange
  pub result : Result (Unit {0}) ServeStop
  pub opening : IsOpening task found opened
  pub serves : ServesAll old last exchanges
  pub writes : WritesLines whole (λ _. ⊤) task.port task.turns (length exchanges) None None result
  pub notes : NotesRun whole Unclosed old last false opened exchanges result task.level None None
  pub ends : end ≡ end_of_serve result

-- The server couldn't listen on its port because of an error of the kind `why`. Its event line was
-- written, and the store didn't change before it was closed.
pub record LacksPort (task : ServeTask) (old last : State) (whole : Type 0) (Unclosed : StoreFault → Type 0) (end : End) : Type 0 where
  pub why : ErrorKind
  pub stays : Stays old last
  pub notes : NotesAll task.level None None (unstarted_line why task.port ∷ [])
  pub ends : EndsClosed whole Unclosed (end_of_port why) end

abbrev pub Serves : ServeTask → FileState → State → ((State → Type 0 → (StoreFault → Type 0) → Type 0) → Type 0) → End → Type 0
Serves task found old at_end end = at_end (λ last whole Unclosed. ServesFile task found old last whole Unclosed end ⊎ LacksPort task old last whole Unclosed end)

-- ---- `report`

abbrev pub end_of_report : Result (Unit {0}) AccountFault → End
end_of_report (Ok u) = Done
end_of_report (Err fault) = end_of_account fault

-- The batch was reported, and the store didn't change before it was closed.
pub record ReportsFile (task : ReportTask) (old last : State) (whole : Type 0) (Unclosed : StoreFault → Type 0) (end : End) : Type 0 where
  pub result : Result (Unit {0}) AccountFault
  pub stays : Stays old last
  pub reports : Reports old last BatchUnknown (λ c. report_text c.facts task.batch) None None result
  pub cause : MayReport BatchUnknown result
  pub faults : CountsFaults old last (store_answer result)
  pub ends : EndsClosed whole Unclosed (end_of_report result) end

abbrev pub ReportsBatch : ReportTask → FileState → State → ((State → Type 0 → (StoreFault → Type 0) → Type 0) → Type 0) → End → Type 0
ReportsBatch task found old at_end end = at_end (λ last whole Unclosed. ReportsFile task old last whole Unclosed end)

-- ---- a run over a database file

-- the end of the task, or the end for the fault of the file
abbrev pub end_of_taken : Result End FileFault → End
end_of_taken (Ok end) = end
end_of_taken (Err fault) = end_of_file fault

-- The task with the relation `Ran` ran over the store in the files, and has the end `end`. Or no
-- task ran, and `end` is the end for the fault that says why.
pub record EndsOver {D : Type 0} (g : Ghosts D) (image : Image) (IsFresh : Bool → D → Type 0) (wanted : Wanted) (Ran : FileState → State → ((State → Type 0 → (StoreFault → Type 0) → Type 0) → Type 0) → End → Type 0) (end : End) : Type 0 where
  pub how : OverFiles g image (λ conn. RunsOver conn (MayHaveCommits image) wanted Ran end)
      ⊎ ((fault : FileFault) × (end ≡ end_of_file fault) × IsNotTaken g image IsFresh wanted fault)

-- ---- runs of a server, one after another

-- the connections that were served; none if the server couldn't listen
abbrev pub exchanges_of : {task : ServeTask} {found : FileState} {old last : State} {whole : Type 0} {Unclosed : StoreFault → Type 0} {end : End}
    → ServesFile task found old last whole Unclosed end ⊎ LacksPort task old last whole Unclosed end → List Exchange
exchanges_of (inl serves) = serves.exchanges
exchanges_of (inr lacks) = []

module _ {D : Type 0} {g : Ghosts D} (image : Image) (wanted : Wanted) where
  -- The store `first` was opened over the connection `conn`, `last` is the store at the end of the
  -- run, and the arrivals `tried` were tried. If the files held the contents of the runs before, or
  -- if this is the first run, the store was opened with these contents. Afterwards the files hold
  -- the contents of all runs, whether the run ends with an ordinary exit or a crash.
  pub record KeepsFiles (conn : Held (FileStore D g)) (first last : SqlStore (FileStore D g) over_files) (tried : List Tried) : Type 0 where
    pub begins : HasCleanDisk (file_state (connection first)) → (c : Contents) → IsOpenedWith wanted (file_state conn).now c
        → AreSound c × ∥ StartsAfterRuns (stands_for over_files first) c [] ∥₁
    pub finds : HasCleanDisk (file_state (connection first)) → (c : Contents) (runs : List (List Tried)) → HoldRuns image c runs
        → ∥ StartsAfterRuns (stands_for over_files first) c runs ∥₁
    pub keeps : (c : Contents) (runs : List (List Tried)) (left : Image) → AreSound c → ∥ StartsAfterRuns (stands_for over_files first) c runs ∥₁
        → IsLeftBy (connection last) left → HoldRuns left c (runs ++ tried ∷ [])

  -- Connections were served over the store in the files.
  pub record KeepsRuns (task : ServeTask) (end : End) (conn : Held (FileStore D g)) : Type 0 where
    pub run : RunsOver conn (MayHaveCommits image) wanted (Serves task) end
    pub files : KeepsFiles conn run.store run.ran.0 (tries (exchanges_of run.ran.1))

  -- A batch was reported over the store in the files.
  pub record KeepsReported (task : ReportTask) (end : End) (conn : Held (FileStore D g)) : Type 0 where
    pub run : RunsOver conn (MayHaveCommits image) wanted (ReportsBatch task) end
    pub files : KeepsFiles conn run.store run.ran.0 []

  -- The database is refused, and its files still hold the contents of the runs before.
  pub record RefusesRuns (fault : FileFault) (conn : Held (FileStore D g)) : Type 0 where
    pub after : Held (FileStore D g)
    pub refused : IsRefused wanted (file_state conn) (file_state after) fault
    pub keeps : (c : Contents) (runs : List (List Tried)) (left : Image) → HoldRuns image c runs → IsLeftByCrash after left → HoldRuns left c runs

module _ {D : Type 0} (g : Ghosts D) (image : Image) (IsFresh : Bool → D → Type 0) (wanted : Wanted) where
  -- The fault says why no task ran.
  abbrev pub IsNotRun : FileFault → Type 0
  IsNotRun fault = IsAbsent wanted fault ⊎ (IsNotBegun g image IsFresh fault ⊎ OverFiles g image (RefusesRuns image wanted fault))

  -- A task ran over the store in the files, and `Keeps` is true of the connection. Or no task ran,
  -- and `end` is the end for the fault that says why.
  pub record KeepsOver (Keeps : Held (FileStore D g) → Type 0) (end : End) : Type 0 where
    pub how : OverFiles g image Keeps ⊎ ((fault : FileFault) × (end ≡ end_of_file fault) × IsNotRun fault)

  abbrev pub ServesOver : ServeTask → End → Type 0
  ServesOver task end = KeepsOver (KeepsRuns image wanted task end) end

  abbrev pub ReportsOver : ReportTask → End → Type 0
  ReportsOver task end = KeepsOver (KeepsReported image wanted task end) end
