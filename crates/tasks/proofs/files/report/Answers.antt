use Rattle.std.proofs.Common.{refl}
use Rattle.tasks.specs.declared.store_tasks.ReportTask.{ReportTask}
use Rattle.tasks.proofs.Keeping.{reports_over}
use Rattle.tasks.proofs.files.report.Goals as goal

pub returns : goal.returns
returns g c =
    let task : ReportTask = record { rt = c.args.rt; batch = c.args.batch } in (
      task,
      refl,
      reports_over c.left_in_turn.ensures c.runs_find_files.ensures c.files_keep_runs.ensures c.refused_files_keep_runs.ensures _ _ c.args.file.wanted c.over_file.result task c.over_file.ensures,
    )
