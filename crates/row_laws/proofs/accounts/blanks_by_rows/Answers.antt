use Rattle.row_laws.proofs.TotalRows.{blanks_in_rows}
use Rattle.row_laws.proofs.accounts.blanks_by_rows.Goals as goal

pub returns : goal.returns
returns call f p sound = blanks_in_rows f sound p
