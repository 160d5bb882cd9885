use Rattle.std.proofs.Common.{◌≡◌, drop}
use Rattle.job_facts.specs.States.{product_named}
use Rattle.audit_order.proofs.names.product_named.Given as goal

-- No product before this row has the name.
abbrev pub invariant-loop-row : goal.invariant-loop-row
invariant-loop-row l = product_named (drop l.row-index l.products) l.name ≡ product_named l.products l.name
