use Rattle.audit_cards.specs.Cards.{words_placed}
use Rattle.audit_order.proofs.SameLists.{AreSameBelow}
use Rattle.audit_cards.proofs.words.are_placed.Given as goal

abbrev pub invariant-loop-place : goal.invariant-loop-place
invariant-loop-place l = AreSameBelow (λ w. w) l.words (words_placed l.session.id l.own) l.place
