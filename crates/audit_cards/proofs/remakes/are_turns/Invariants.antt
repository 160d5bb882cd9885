use Rattle.audit_laws.specs.Audited.{turns_of}
use Rattle.audit_order.proofs.SameLists.{AreSameBelow}
use Rattle.audit_cards.proofs.remakes.are_turns.Given as goal

abbrev pub invariant-loop-before : goal.invariant-loop-before
invariant-loop-before l = AreSameBelow (λ r. r) l.remakes (turns_of l.stored) l.before
