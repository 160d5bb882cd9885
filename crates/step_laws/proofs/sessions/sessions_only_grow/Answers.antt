use Rattle.step_laws.proofs.Growth.{later_on, later_same, step_later}
use Rattle.step_laws.proofs.Kept.{step_knows}
use Rattle.step_laws.proofs.sessions.sessions_only_grow.Goals as goal

pub returns : goal.returns
returns c = record {
  knows = step_knows;
  step = λ f client r sound. step_later f client r sound;
  none = later_same;
  more = later_on;
}
