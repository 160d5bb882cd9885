-- The results of checks that return `true` if and only if a condition holds.
use Rattle.std.proofs.Common.{◌≡◌, Bool, true, false, Result, Ok, Err, refl, sym, subst}
use Rattle.std.specs.Prelude.{IfOk}
use Rattle.std.proofs.lemmas.Bool.{false≢true}

-- The condition doesn't hold, so the result is `false`; in `granted` it holds.
pub refused : {P : Type 0} → (P → ⊥) → (false ≡ true → P) × (P → false ≡ true)
refused none = (λ e. absurd (false≢true e), λ p. absurd (none p))

pub granted : {P : Type 0} → P → (true ≡ true → P) × (P → true ≡ true)
granted p = (λ e. p, λ q. refl)

-- The check of `A` is a check of an equivalent condition `B`.
pub test_as : {E A B : Type 0} (r : Result Bool E) → (A → B) → (B → A) → IfOk r (λ sound. (sound ≡ true → A) × (A → sound ≡ true)) → IfOk r (λ sound. (sound ≡ true → B) × (B → sound ≡ true))
test_as (Ok sound) to back tested = (λ e. to (tested.0 e), λ b. tested.1 (back b))
test_as (Err e) to back tested = tested

-- The check of `P x` is a check of `P y` if `x` equals `y`.
pub test_of : {E X : Type 0} (P : X → Type 0) (r : Result Bool E) {x y : X} → x ≡ y
    → IfOk r (λ sound. (sound ≡ true → P x) × (P x → sound ≡ true)) → IfOk r (λ sound. (sound ≡ true → P y) × (P y → sound ≡ true))
test_of P r same = test_as r (subst P same) (subst P (sym same))
