use Rattle.std.proofs.Common.{◌≡◌, Option, Some, subst}
use Rattle.std.specs.Prelude.{IfSome}
use Rattle.server_run.specs.ImportLines.{ImportedFile, product_of}
use Rattle.server_run.proofs.import.refused_product.Goals as goal

pub returns-in-Some-clause-product : goal.returns-in-Some-clause-product
returns-in-Some-clause-product g c = λ honest contents held.
    subst (λ (file : Option ImportedFile). IfSome c.product_named.result (λ q. product_of contents.facts file ≡ Some q)) c.in-Some.ensures (c.product_named.ensures.product honest contents held)
