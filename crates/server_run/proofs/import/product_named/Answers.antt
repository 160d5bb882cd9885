use Rattle.std.proofs.Common.{◌≡◌, ◌∙◌, Option, Some, None, sym}
use Rattle.std.specs.Prelude.{IfSome}
use Rattle.store_data.specs.declared.row.Product.{Product}
use Rattle.server_run.proofs.import.product_named.Goals as goal

found : (r p wanted : Option Product) → IfSome r (λ q. p ≡ Some q) → p ≡ wanted → IfSome r (λ q. wanted ≡ Some q)
found None p wanted valid is = tt
found (Some q) p wanted valid is = sym is ∙ valid

pub returns-in-Ok-clause-product : goal.returns-in-Ok-clause-product
returns-in-Ok-clause-product g c = λ honest contents held.
    found c.valid_product.result c.in-Ok.product _ c.valid_product.ensures (c.in-Ok.ensures.value honest contents held)

pub returns-in-Ok-clause-stays : goal.returns-in-Ok-clause-stays
returns-in-Ok-clause-stays g c = c.product.ensures.leaves.stays

pub returns-in-Err-clause-stays : goal.returns-in-Err-clause-stays
returns-in-Err-clause-stays g c = c.product.ensures.leaves.stays
