use Rattle.step_laws.proofs.Growth.{step_few, step_leaves, step_others, step_turns, step_words}
use Rattle.step_laws.proofs.sessions.only_its_machine_changes_a_session.Goals as goal

pub returns : goal.returns
returns c = record {
  others = step_others;
  all = step_leaves;
  least = λ f client r. (step_few f client r).0;
  most = λ f client r. (step_few f client r).1;
  turns = step_turns;
  words = step_words;
}
