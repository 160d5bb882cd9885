use Rattle.std.proofs.Common.{ap, ◌∙◌}
use Rattle.std.specs.Prelude.{unwrap_or}
use Rattle.store_data.specs.Sequence.{Plan, commands_of, no_plan}
use Rattle.job_facts.specs.Facts.{Session}
use Rattle.job_facts.specs.States.{state_with}
use Rattle.list_store.specs.Sessions.{plan_of_session}
use Rattle.list_store.proofs.SessionLemmas.{state_under_plan}
use Rattle.list_store.proofs.sessions.session_state.Goals as goal

pub returns : goal.returns
returns c =
    c.state_under.ensures
    ∙ ap (λ (plan : Plan). state_with (commands_of plan) c.args.session.now)
    (c.in_ok-plan.ensures ∙ ap (λ o. unwrap_or o no_plan) c.in_ok-rows.ensures ∙ ap (λ (s : Session). plan_of_session c.args.facts.now s) c.session.view_is)
    ∙ state_under_plan c.args.facts.now c.args.session.now
