use Rattle.std.proofs.Common.{◌≡◌, drop}
use Rattle.job_facts.specs.States.{product_named}
use Rattle.list_store.proofs.names.product_named.Given as goal

-- No product before this one has the name.
abbrev pub invariant-loop-valid : goal.invariant-loop-valid
invariant-loop-valid l = product_named (drop l.valid-index l.products) l.code ≡ product_named l.products l.code
