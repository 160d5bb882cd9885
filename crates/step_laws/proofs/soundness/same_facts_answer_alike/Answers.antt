use Rattle.step_laws.proofs.AlikeAccounts.{accounts_alike}
use Rattle.step_laws.proofs.AlikeSteps.{step_alike}
use Rattle.step_laws.proofs.soundness.same_facts_answer_alike.Goals as goal

pub returns-clause-replies : goal.returns-clause-replies
returns-clause-replies c f g client r sound same = step_alike f g sound same client r

pub returns-clause-accounts : goal.returns-clause-accounts
returns-clause-accounts c = accounts_alike
