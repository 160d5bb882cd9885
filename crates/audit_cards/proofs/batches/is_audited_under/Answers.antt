use Rattle.audit_cards.proofs.BatchLemmas.{unread_refuses}
use Rattle.audit_order.proofs.Tested.{refused}
use Rattle.audit_cards.proofs.batches.is_audited_under.Goals as goal

pub returns-in-None : goal.returns-in-None
returns-in-None c = refused (unread_refuses c.args.tables.now c.args.batch.now c.args.product.now c.requires.product (c.in_ok-read.ensures.none c.in-None.is))
