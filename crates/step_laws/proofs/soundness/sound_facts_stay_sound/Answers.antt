use Rattle.step_laws.proofs.SoundSteps.{step_sound}
use Rattle.step_laws.proofs.soundness.sound_facts_stay_sound.Goals as goal

pub returns : goal.returns
returns c = step_sound
