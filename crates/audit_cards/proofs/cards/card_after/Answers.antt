use Rattle.std.proofs.Common.{◌+◌, drop, subst, take}
use Rattle.store_data.specs.Sequence.{commands_of}
use Rattle.job_facts.specs.Sound.{AreWords}
use Rattle.audit_cards.specs.Cards.{status_words}
use Rattle.audit_cards.proofs.CardLemmas.{status_split}
use Rattle.audit_cards.proofs.cards.card_after.Goals as goal

pub loop-word-init : goal.loop-word-init
loop-word-init c = c.new_card-card.ensures c.args.plan.now

pub returns-in_err-card-clause-none : goal.returns-in_err-card-clause-none
returns-in_err-card-clause-none c = λ none are.
    let words = c.args.words.now in
    let i = c.loop-word.word-index in
    let split = status_split words i c.word-item.result c.loop-word-test.true c.word-item.is in
    c.after.ensures.none (status_words (take i words)) (status_words (drop (i + 1) words)) c.loop-word.invariant c.in_err-card.was
    (subst (AreWords (commands_of c.args.plan.now)) (rw (← c.word.view_is) at split) are)
