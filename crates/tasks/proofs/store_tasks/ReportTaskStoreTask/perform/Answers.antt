use Rattle.std.proofs.Common.{◌≡◌, ◌∙◌, ap, sym, subst}
use Rattle.subcommands.specs.Joins.{end_of_close}
use Rattle.tasks.specs.Tasks.{end_of_report}
use Rattle.tasks.proofs.store_tasks.ReportTaskStoreTask.perform.Goals as goal
use Rattle.tasks.proofs.store_tasks.ReportTaskStoreTask.perform.Goals.{in-Ok, in-Err}

pub returns : goal.returns
returns g c =
    let ended : c.match-close_report.end ≡ end_of_report c.close_report.result = elim c.match-close_report.branch [
      | in-Ok w ↦ w.end-is ∙ sym (ap end_of_report w.in-Ok.is)
      | in-Err w ↦ w.end-is ∙ (w.from-end.ensures ∙ sym (ap end_of_report w.in-Err.is))
    ] in (
      c.close_report.new.store,
      record {
        result = c.close_report.result;
        stays = c.close_report.ensures.leaves.stays;
        reports = c.close_report.ensures.reports;
        cause = c.close_report.ensures.cause;
        faults = c.close_report.ensures.leaves.faults;
        ends = (c.finish.result, c.finish.ensures.closed, c.finish.ensures.fault, subst (λ end. c.end_of_close.result ≡ end_of_close end c.finish.result) ended c.end_of_close.ensures);
      },
    )
