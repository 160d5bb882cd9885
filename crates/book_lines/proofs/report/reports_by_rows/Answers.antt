use Rattle.book_lines.proofs.ReportLemmas.{report_is}
use Rattle.book_lines.proofs.report.reports_by_rows.Goals as goal

pub returns : goal.returns
returns c = λ t contents name book sound same. report_is t contents book sound same name
