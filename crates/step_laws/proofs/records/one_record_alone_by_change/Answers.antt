use Rattle.step_laws.proofs.ChangeStands.{others_same, touched_stands, touched_stood}
use Rattle.step_laws.proofs.records.one_record_alone_by_change.Goals as goal

pub returns : goal.returns
returns c = record {
  others = λ f change sound is. others_same f change sound is.before;
  before = λ f change sound is. touched_stood f change sound is.before;
  after = λ f change sound is. touched_stands f change sound is.before is.after;
}
