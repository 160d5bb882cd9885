use Rattle.audit_laws.specs.Audited.{placed_words}
use Rattle.audit_cards.proofs.Consuming.{cannot_take}
use Rattle.audit_order.proofs.Tested.{refused}
use Rattle.audit_cards.proofs.words.are_words_of.Goals as goal

pub returns-in-None : goal.returns-in-None
returns-in-None c = refused (λ whole. cannot_take (placed_words c.args.tables.now) c.args.sessions.now c.args.words.now c.loop-session.session-index c.session-item.result c.loop-session-test.true c.session-item.is
    c.loop-session.rest.now c.loop-session.invariant (c.behind_words.ensures.none c.in-None.is) whole)
