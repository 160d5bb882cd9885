use Rattle.std.proofs.Common.{◌∙◌, refl, sym, subst}
use Rattle.feeding.specs.Events.{IsNoted, flaw_lines}
use Rattle.feeding.proofs.Noting.{lost, noted_line}
use Rattle.feeding.proofs.events.note_flaw.Goals as goal

pub returns-then-not-is_on : goal.returns-then-not-is_on
returns-then-not-is_on g c = lost g.E.Write.contents c.args.events.now c.args.events.now _ refl

pub returns-in-Ok-Some : goal.returns-in-Ok-Some
returns-in-Ok-Some g c =
    let old = c.args.events.now in
    let new = c.note.new.self in
    subst (λ o. IsNoted g.E.Write.contents old new (flaw_lines c.args.number o)) (sym c.in-Ok-Some.field-0-is ∙ c.in-Ok-Some.ensures.value)
    (noted_line g.E.Write.contents old new c.flaw_line.result _ c.flaw_line.ensures c.note.ensures.level c.note.ensures.noted)

pub returns-else-not-is_on-2 : goal.returns-else-not-is_on-2
returns-else-not-is_on-2 g c = lost g.E.Write.contents c.args.events.now c.args.events.now _ refl
