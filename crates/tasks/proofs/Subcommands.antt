-- Lemmas: from the end of `serve`, of `report` or of a run over streams to the end of the
-- subcommand.
use Rattle.std.proofs.Common.{◌≡◌, ◌∙◌, ap, refl, subst, sym, ℕ, Bool, List, Option, None}
use Rattle.std.specs.Prelude.{String, string_bytes}
use Rattle.std.specs.Global.{Global}
use Rattle.sqlite.specs.Recovery.{Image}
use Rattle.sqlite_disk.specs.declared.Disk.{Ghosts}
use Rattle.arguments.specs.declared.words.Words.{Words}
use Rattle.arguments.specs.declared.words.Words.TheVariants as words
use Rattle.event_lines.specs.declared.level.Level.{Level}
use Rattle.event_lines.specs.declared.log.EventLog.{EventLog}
use Rattle.over_tables.specs.declared.opening.Wanted.{Wanted}
use Rattle.over_tables.specs.declared.opening.Wanted.TheVariants.{Any, Ours}
use Rattle.subcommands.specs.Joins.{wanted_of}
use Rattle.subcommands.specs.Runs.{Runs, product_of}
use Rattle.subcommands.specs.declared.end.End.{End}
use Rattle.subcommands.proofs.RunLemmas.{plans_of}
use Rattle.tasks.specs.Tasks.{ReportsOver, ServesOver}
use Rattle.tasks.specs.declared.store_tasks.ReportTask.{ReportTask}
use Rattle.tasks.specs.declared.store_tasks.ServeTask.{ServeTask}
use Rattle.tasks.specs.Obeys.{Obeys}

module _ {D : Type 0} {g : Ghosts D} {image : Image} {IsFresh : Bool → D → Type 0} where
  pub obeys_serve : (task : ServeTask) (w : Words) (db : String Global) (wanted : Wanted) (end : End) → w ≡ words.Serve db task.port task.turns → wanted ≡ wanted_of w → task.path.now ≡ string_bytes db
      → ServesOver g image IsFresh wanted task end → Obeys g image IsFresh task.level w end
  obeys_serve task w db wanted end is wants at serves =
      let any : wanted ≡ Any = wants ∙ ap wanted_of is in
      let over = subst (λ (x : Wanted). ServesOver g image IsFresh x task end) any serves in
      subst (λ (x : Words). Obeys g image IsFresh task.level x end) (sym is) (task, at, refl, refl, refl, over)

  pub obeys_report : (w : Words) (db : String Global) (batch : List ℕ) (wanted : Wanted) (level : Level) (end : End) → w ≡ words.Report db batch → wanted ≡ wanted_of w
      → (task : ReportTask) × (task.batch ≡ batch) × ReportsOver g image IsFresh wanted task end → Obeys g image IsFresh level w end
  obeys_report w db batch wanted level end is wants reports =
      let ours : wanted ≡ Ours = wants ∙ ap wanted_of is in
      let over = subst (λ (x : Wanted). ReportsOver g image IsFresh x reports.0 end) ours reports.2 in
      subst (λ (x : Words). Obeys g image IsFresh level x end) (sym is) (reports.0, reports.1, over)

module _ {D : Type 0} (g : Ghosts D) (image : Image) (IsFresh : Bool → D → Type 0) (level : Level) where
  pub obeys_streams : {E : Type 0} (contents : E → Option (List ℕ)) (old new : EventLog E) (w : Words) (end : End) → Runs contents w None None None old new end → Obeys g image IsFresh level w end
  obeys_streams contents old new (words.Plan max low check) end runs = plans_of contents (product_of max low check) None None None old new end runs
  obeys_streams contents old new words.Drill end runs = runs.0
  obeys_streams contents old new (words.Serve db port turns) end runs = absurd runs
  obeys_streams contents old new (words.Report db batch) end runs = absurd runs
  obeys_streams contents old new (words.Feed port start) end runs = absurd runs
