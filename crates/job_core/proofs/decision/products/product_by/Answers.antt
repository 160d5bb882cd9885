use Rattle.std.proofs.Common.{arith, refl, sym, ◌∙◌, ◌<◌, length}
use Rattle.std.proofs.lemmas.Bool.{lt-leb}
use Rattle.job_facts.specs.Steps.{step}
use Rattle.job_facts.proofs.SoundFacts.{sound_product}
use Rattle.job_core.proofs.decision.products.product_by.Goals as goal

pub returns-in-None-2 : goal.returns-in-None-2
unfolding step
returns-in-None-2 c = λ f sound kept products.
    let new = sym kept ∙ c.in-None-2.is in
    let few : length f.products < 256 = omega (arith, products, c.if-products-ge-MOST_PRODUCTS.false) in
    record {
      step_is = rw (new, lt-leb 256 (length f.products) few) refl;
      keeps = record { before = tt; sound = sound_product f c.args.product.now sound new few c.requires c.is_a_name.ensures; after = tt };
    }
