use Rattle.std.proofs.Common.{◌≤◌, ◌∙◌, List, ℕ, ap}
use Rattle.std.specs.Prelude.{count_by}
use Rattle.table_rows.specs.Keys.{is_running_on}
use Rattle.table_rows.specs.Tables.{StoredSession, Tables}
use Rattle.audit_order.proofs.Tested.{test_of}
use Rattle.audit_rows.proofs.audit.has_machines.Goals as goal

abbrev RunOnce : List StoredSession → Type 0
RunOnce ss = (machine : List ℕ) → count_by (is_running_on machine) ss ≤ 1

pub returns : goal.returns
returns c = test_of RunOnce c.run_once.result (c.deref.ensures.value ∙ ap (λ (t : Tables). t.sessions) c.tables.view_is) c.run_once.ensures
