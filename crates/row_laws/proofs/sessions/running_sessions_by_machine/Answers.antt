use Rattle.row_laws.proofs.SessionRows.{running_in_rows, running_once}
use Rattle.row_laws.proofs.sessions.running_sessions_by_machine.Goals as goal

pub returns : goal.returns
returns call = record { once = λ f machine sound. running_once f sound machine; number = running_in_rows }
