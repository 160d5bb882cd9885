use Rattle.std.proofs.Common.{◌∙◌, sym}
use Rattle.std.proofs.lemmas.Bool.{false≢true}
use Rattle.audit_rows.proofs.NamedLemmas.{are_lots, lots_apart, lots_in_range}
use Rattle.audit_order.proofs.Tested.{refused}
use Rattle.audit_rows.proofs.named.are_lots.Goals as goal

pub returns-then-not-are_apart : goal.returns-then-not-are_apart
returns-then-not-are_apart c = refused (λ a. false≢true (sym c.if-not-are_apart.true ∙ c.are_apart.ensures.1 (lots_apart c.args.products.now c.args.lots.now a)))

pub returns : goal.returns
returns c = (
  λ yes. are_lots c.args.products.now c.args.lots.now c.if-lots-gt4096.false (c.are_apart.ensures.0 c.if-not-are_apart.false) (c.are_lots_in_range.ensures.0 yes),
  λ a. c.are_lots_in_range.ensures.1 (lots_in_range c.args.products.now c.args.lots.now a),
)
