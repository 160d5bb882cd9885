use Rattle.std.proofs.Common.{take}
use Rattle.audit_cards.specs.Cards.{Leaves, status_words}
use Rattle.audit_cards.proofs.cards.card_after.Given as goal

abbrev pub invariant-loop-word : goal.invariant-loop-word
invariant-loop-word l = Leaves l.plan (status_words (take l.word-index l.words)) l.card.cursor l.card.stops
