use Rattle.std.proofs.Common.{◌∙◌, false, ap, length, sym, subst}
use Rattle.std.specs.Prelude.{option_map}
use Rattle.store_data.specs.Cursor.{shown}
use Rattle.audit_cards.specs.Cards.{Leaves}
use Rattle.audit_cards.proofs.CardLemmas.{Leaves-goes, Leaves-stops, at_length, command_there, none_after, none_past}
use Rattle.step_laws.proofs.CursorLemmas.{IsCursor-at, end_at}
use Rattle.audit_cards.proofs.cards.after.Goals as goal

pub returns-then-card-clause-none : goal.returns-then-card-clause-none
returns-then-card-clause-none c = λ words more left none are.
    none_after c.args.plan.now words c.args.card.now.cursor more c.args.sw (subst (Leaves c.args.plan.now words c.args.card.now.cursor) c.if-card.true left) are

pub returns-in_err-segment-clause-none : goal.returns-in_err-segment-clause-none
returns-in_err-segment-clause-none c = λ words more left none are.
    let plan = c.args.plan.now in
    let goes : Leaves plan words c.args.card.now.cursor false = subst (Leaves plan words c.args.card.now.cursor) c.if-card.false left in
    let end = end_at plan c.requires.plan _ _ (at_length plan words c.args.card.now.cursor goes) (sym c.segment.ensures ∙ ap (option_map shown) c.in_err-segment.was) in
    none_past plan words c.args.card.now.cursor more c.args.sw goes end are

pub step_from-requires : goal.step_from-requires
step_from-requires c =
    IsCursor-at c.args.plan.now c.requires.plan _ _ c.requires.card.1.at

pub returns-then-goes-clause-some : goal.returns-then-goes-clause-some
returns-then-goes-clause-some c = λ words left.
    let plan = c.args.plan.now in
    let cursor = c.args.card.now.cursor in
    let is = c.requires.plan in
    let goes : Leaves plan words cursor false = subst (Leaves plan words cursor) c.if-card.false left in
    let there = sym c.segment.ensures ∙ ap (option_map shown) c.in_ok-segment.was in
    let at = at_length plan words cursor goes in
    Leaves-goes plan words cursor goes c.args.sw (command_there plan is _ cursor at _ there) c.ranges.sw.fits c.step_from.new.self
    (sym (c.goes.ensures plan (length words) c.requires.plan at there (sym c.requires.max)) ∙ c.if-goes.true)
    (c.step_from.ensures plan (length words) is at there (sym c.requires.max))

pub returns-else-goes-clause-some : goal.returns-else-goes-clause-some
returns-else-goes-clause-some c = λ words left.
    let plan = c.args.plan.now in
    let cursor = c.args.card.now.cursor in
    let goes : Leaves plan words cursor false = subst (Leaves plan words cursor) c.if-card.false left in
    let there = sym c.segment.ensures ∙ ap (option_map shown) c.in_ok-segment.was in
    let at = at_length plan words cursor goes in
    Leaves-stops plan words cursor goes c.args.sw (command_there plan c.requires.plan _ cursor at _ there) c.ranges.sw.fits
    (sym (c.goes.ensures plan (length words) c.requires.plan at there (sym c.requires.max)) ∙ c.if-goes.false)
