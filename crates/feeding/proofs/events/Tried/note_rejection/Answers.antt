use Rattle.std.proofs.Common.{◌∙◌, Some, option_map, sym, subst, ap, Bor}
use Rattle.job_facts.specs.declared.reply.Reply.{Reply}
use Rattle.feeding.specs.Events.{IsNoted, rejection_lines}
use Rattle.feeding.proofs.Noting.{noted_line}
use Rattle.feeding.proofs.events.Tried.note_rejection.Goals as goal

pub returns-in-Exhausted : goal.returns-in-Exhausted
returns-in-Exhausted g c =
    let t = c.args.self.now in
    let old = c.args.events.now in
    let new = c.note.new.self in
    subst (λ how. IsNoted g.E.Write.contents old new (rejection_lines t.serial t.number (option_map (λ (r : Bor Reply). r.now) t.reply) how)) (sym (c.in-Some.is ∙ ap Some c.in-Exhausted.is))
    (noted_line g.E.Write.contents old new c.exhausted_line.result _ c.exhausted_line.ensures c.note.ensures.level c.note.ensures.noted)
