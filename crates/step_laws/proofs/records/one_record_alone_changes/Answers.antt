use Rattle.step_laws.proofs.RecordStands.{step_stands}
use Rattle.step_laws.proofs.records.one_record_alone_changes.Goals as goal

pub returns : goal.returns
returns c = step_stands
