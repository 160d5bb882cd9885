use Rattle.audit_laws.specs.Audited.{turns_of}
use Rattle.audit_cards.proofs.Consuming.{Leaves}
use Rattle.audit_cards.proofs.remakes.are_remakes.Given as goal

abbrev pub invariant-loop-stored : goal.invariant-loop-stored
invariant-loop-stored l = Leaves turns_of l.records l.fn.remakes l.stored-index l.rest
