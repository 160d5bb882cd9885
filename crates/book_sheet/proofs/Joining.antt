-- Lemmas about texts that are appended one after another.
use Rattle.std.proofs.Common.{◌≡◌, ℕ, List, ◌++◌, append_assoc, ap, ◌∙◌}
use Rattle.std.specs.Prelude.{Result, Ok, Err, OnOk}

pub join : (p q r a b : List ℕ) → q ≡ p ++ a → r ≡ q ++ b → r ≡ p ++ (a ++ b)
join p q r a b first second = second ∙ ap (λ xs. xs ++ b) first ∙ append_assoc p a b

-- one text, and then another that may fail to be appended
pub last : {E : Type 0} (outcome : Result (Unit {0}) E) (p q r a b : List ℕ) → q ≡ p ++ a → OnOk outcome (r ≡ q ++ b) → OnOk outcome (r ≡ p ++ (a ++ b))
last (Ok u) p q r a b first second = join p q r a b first second
last (Err e) p q r a b first second = tt
