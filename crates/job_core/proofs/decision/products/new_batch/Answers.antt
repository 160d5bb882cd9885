use Rattle.std.proofs.Common.{◌≡◌, ◌<◌, ◌+◌, ℕ, List, [], ◌∷◌, length, Some, inl, inr, arith, refl, ap, sym, subst, ◌∙◌}
use Rattle.std.specs.Prelude.{bytes_eq}
use Rattle.std.proofs.lemmas.Bool.{cases_Bool, cond-false, cond-true, lt-leb}
use Rattle.std.proofs.lemmas.Option.{none-some, same_Some}
use Rattle.std.proofs.lemmas.Result.{IfOk-weaker}
use Rattle.store_data.specs.declared.row.Product.{Product}
use Rattle.store_data.proofs.GroupLemmas.{same-bytes_eq}
use Rattle.job_facts.specs.Sound.{Makes}
use Rattle.job_facts.specs.States.{product_named}
use Rattle.job_facts.specs.Steps.{Outcome, new_batch, taken_in}
use Rattle.batch_import.specs.Batch.{batch_of}
use Rattle.job_core.proofs.decision.products.new_batch.Goals as goal

-- A product found by its code has this code.
code_is : (products : List Product) (n : List ℕ) (p : Product) → product_named products n ≡ Some p → p.code ≡ n
code_is [] n p found = absurd (none-some p found)
code_is (q ∷ products) n p found = elim (cases_Bool (bytes_eq q.code n)) [
  | inl hit ↦
      let same : q ≡ p = same_Some q p (sym (cond-true (bytes_eq q.code n) (Some q) (product_named products n) hit) ∙ found) in
      ap (λ (x : Product). x.code) (sym same) ∙ same-bytes_eq q.code n hit
  | inr miss ↦ code_is products n p (sym (cond-false (bytes_eq q.code n) (Some q) (product_named products n) miss) ∙ found)
]

pub returns-in-Some-2-clause-value : goal.returns-in-Some-2-clause-value
returns-in-Some-2-clause-value c = λ f sound new under batches.
    let p = c.in-Some.field-0 in
    let n = c.args.file.now.product in
    let there : product_named f.products n ≡ Some p = sym under ∙ c.in-Some.is in
    let code = code_is f.products n p there in
    let own : product_named f.products p.code ≡ Some p = subst (λ m. product_named f.products m ≡ Some p) (sym code) there in
    let few : length f.batches < 4096 = omega (arith, batches, c.if-batches-ge-MOST_BATCHES.false) in
    let outcome : new_batch f c.args.file.now.batch n c.args.file.now.raw.now ≡ taken_in f c.args.file.now.batch p.code c.args.file.now.raw.now (batch_of p c.args.file.now.raw.now) =
    (rw (there, lt-leb 4096 (length f.batches) few) refl) ∙ ap (λ m. taken_in f c.args.file.now.batch m c.args.file.now.raw.now (batch_of p c.args.file.now.raw.now)) (sym code) in
    IfOk-weaker c.taken_in.result _ _ (λ answer made. subst (λ (o : Outcome). Makes f o answer.0 answer.1) (sym outcome) made)
    (c.taken_in.ensures.value f sound new own few (ap (λ k. k + 1) batches))
