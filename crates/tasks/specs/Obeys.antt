-- The end of a run of a subcommand of `persod` (this project's profile). The bytes of the process's
-- own streams are unknown.
use Rattle.std.specs.Prelude.{◌≡◌, Bool, None, string_bytes}
use Rattle.sqlite.specs.Recovery.{Image}
use Rattle.sqlite_disk.specs.declared.Disk.{Ghosts}
use Rattle.arguments.specs.declared.words.Words.{Words}
use Rattle.arguments.specs.declared.words.Words.TheVariants as words
use Rattle.event_lines.specs.declared.level.Level.{Level}
use Rattle.over_tables.specs.declared.opening.Wanted.TheVariants.{Any, Ours}
use Rattle.subcommands.specs.Runs.{DrillRuns, Feeds, Plans, product_of}
use Rattle.subcommands.specs.declared.end.End.{End}
use Rattle.tasks.specs.Tasks.{ReportsOver, ServesOver}
use Rattle.tasks.specs.declared.store_tasks.ReportTask.{ReportTask}
use Rattle.tasks.specs.declared.store_tasks.ServeTask.{ServeTask}

module _ {D : Type 0} (g : Ghosts D) (image : Image) (IsFresh : Bool → D → Type 0) where
  -- the end of a run of the given subcommand, with the event lines of `level`; only `serve` creates
  -- a database file
  abbrev pub Obeys : Level → Words → End → Type 0
  Obeys level (words.Serve db port turns) end =
      (task : ServeTask) × (task.path.now ≡ string_bytes db) × (task.port ≡ port) × (task.turns ≡ turns) × (task.level ≡ level) × ServesOver g image IsFresh Any task end
  Obeys level (words.Report db batch) end = (task : ReportTask) × (task.batch ≡ batch) × ReportsOver g image IsFresh Ours task end
  Obeys level (words.Feed port start) end = Feeds start None None None None None end
  Obeys level (words.Plan max low check) end = Plans (product_of max low check) None None None end
  Obeys level words.Drill end = DrillRuns None None None end
