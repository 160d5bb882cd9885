use Rattle.std.proofs.Common.{◌≡◌, ◌+◌, length, ap, sym, ◌∙◌}
use Rattle.job_facts.specs.Facts.{new_session, with_session}
use Rattle.job_facts.specs.States.{command_at}
use Rattle.job_facts.specs.declared.reply.Reply.TheVariants as reply
use Rattle.job_facts.proofs.RunningLemmas.{command_under, waiting_state}
use Rattle.job_facts.proofs.SoundSessions.{sound_open}
use Rattle.job_core.proofs.decision.sessions.opened.Goals as goal

pub returns : goal.returns
returns c = λ f plan sound may session there command.
    let b = c.args.opens.now.batch in
    let r = c.args.opens.now.rec in
    let blank = c.args.opens.now.blank in
    let machine = c.args.client.now in
    let bytes : command_at f b r 0 ≡ c.bytes_or_none-command.result = command_under f b r plan 0 c.args.command there command ∙ sym c.bytes_or_none-command.ensures in
    record {
      step_is = ap (λ bs. (with_session f (new_session machine b r blank), reply.Opened b blank bs r (length f.sessions + 1))) bytes
          ∙ ap (λ n. (with_session f (new_session machine b r blank), reply.Opened b blank c.bytes_or_none-command.result r n)) (sym session);
      keeps = record {
        before = (waiting_state f b r may.waits, (may.lot, may.lot_is, may.lot_named), session);
        sound = sound_open f machine b r blank may.batch may.lot sound c.is_a_name.ensures may.there may.more may.idle may.lot_is may.product may.free may.waits;
        after = tt;
      };
    }
