use Rattle.std.proofs.Common.{◌∙◌, sym}
use Rattle.std.proofs.lemmas.Bool.{false≢true}
use Rattle.audit_cards.proofs.BatchLemmas.{no_product}
use Rattle.audit_order.proofs.Tested.{refused}
use Rattle.audit_cards.proofs.batches.is_audited_file.Goals as goal

pub returns-then-not-is_named : goal.returns-then-not-is_named
returns-then-not-is_named c = refused (λ a. false≢true (sym c.if-not-is_named.true ∙ c.is_named.ensures ∙ a.batch.named))

pub returns-in-None : goal.returns-in-None
returns-in-None c = refused (no_product c.args.tables.now c.args.batch.now (sym c.product_for.ensures.value ∙ c.in-None.is))
