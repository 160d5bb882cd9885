use Rattle.row_laws.proofs.GroupingRows.{plan_in_rows}
use Rattle.row_laws.proofs.groupings.plans_by_rows.Goals as goal

pub returns : goal.returns
returns call = plan_in_rows
