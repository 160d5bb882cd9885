use Rattle.row_laws.proofs.LineRows.{lines_in_rows}
use Rattle.row_laws.proofs.accounts.lines_by_rows.Goals as goal

pub returns : goal.returns
returns call f b sound = lines_in_rows f sound b
