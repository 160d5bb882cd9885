use Rattle.audit_laws.specs.Audited.{turns_of}
use Rattle.audit_cards.proofs.Consuming.{cannot_take}
use Rattle.audit_order.proofs.Tested.{refused}
use Rattle.audit_cards.proofs.remakes.are_remakes.Goals as goal

pub returns-in-None : goal.returns-in-None
returns-in-None c = refused (λ whole. cannot_take turns_of c.args.records.now c.args.remakes.now c.loop-stored.stored-index c.stored-item.result c.loop-stored-test.true c.stored-item.is
    c.loop-stored.rest.now c.loop-stored.invariant (c.behind_turns.ensures.none c.in-None.is) whole)
