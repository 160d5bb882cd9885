use Rattle.step_laws.proofs.SoundSteps.{few_sessions}
use Rattle.step_laws.proofs.soundness.sessions_are_few.Goals as goal

pub returns : goal.returns
returns c = few_sessions
