use Rattle.std.proofs.Common.{◌∙◌, Some, sym, ap, option_map}
use Rattle.feeding.proofs.Words.{card_made}
use Rattle.feeding.proofs.card.card_of.Goals as goal

pub returns-clause-value : goal.returns-clause-value
returns-clause-value c =
    card_made c.args.line.now c.in_ok-words.words.items c.in-Some.first.now c.in-Some.rest.now c.in-Some-number_within.serial _ c.in_ok-words.ensures (sym c.deref.ensures.value ∙ c.in-Some.ensures.cases.0)
    (sym c.number_within.ensures.value ∙ c.in-Some-number_within.is) (ap (option_map (λ ws. ws.items)) (sym c.in-None.is) ∙ c.in_ok-words-2.ensures)

pub returns-in-Some-2-clause-value : goal.returns-in-Some-2-clause-value
returns-in-Some-2-clause-value c =
    ap Some c.new.ensures ∙ card_made c.args.line.now c.in_ok-words.words.items c.in-Some.first.now c.in-Some.rest.now c.in-Some-number_within.serial _ c.in_ok-words.ensures (sym c.deref.ensures.value ∙ c.in-Some.ensures.cases.0)
    (sym c.number_within.ensures.value ∙ c.in-Some-number_within.is) (ap (option_map (λ ws. ws.items)) (sym c.in-Some-2.is) ∙ c.in_ok-words-2.ensures)
