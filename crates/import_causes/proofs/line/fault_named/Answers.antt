use Rattle.std.proofs.Common.{List, Result, ap, sym}
use Rattle.batch_import.specs.declared.fault.RowFault.{RowFault}
use Rattle.store_data.specs.declared.row.Row.{Row}
use Rattle.import_causes.specs.Explanations.{fault_named}
use Rattle.import_causes.proofs.line.fault_named.Goals as goal

pub returns-in-Ok : goal.returns-in-Ok
returns-in-Ok c = sym (ap (λ (r : Result (List Row) RowFault). fault_named r c.args.name.now) c.in-Ok.ensures.totals.1)
