-- Lemmas about rows that are decoded one after another.
use Rattle.std.proofs.Common.{◌≡◌, ◌+◌, ◌<◌, ◌++◌, ℕ, List, [], ◌∷◌, All, map, take, length, get_or, sym, ap, subst, ◌∙◌}
use Rattle.std.proofs.lemmas.List.{map_more}
use Rattle.std.proofs.lemmas.List.Elements.{All-push}
use Rattle.sqlite.specs.Order.{Row}

module _ {X : Type 0} (decode : Row → X) (P : X → Type 0) (rows : List Row) where
  -- the first `at` rows are decoded, and each value has the property `P`
  abbrev pub AreSoFar : ℕ → List X → Type 0
  AreSoFar at xs = (xs ≡ map decode (take at rows)) × All P xs

  -- one more row is decoded
  pub one_further : (at : ℕ) (answered : Row) → at < length rows → answered ≡ get_or rows at answered → (x : X) → x ≡ decode answered → P x
      → (xs ys : List X) → AreSoFar at xs → ys ≡ xs ++ x ∷ [] → AreSoFar (at + 1) ys
  one_further at answered within read x is ranged xs ys before pushed = (
    pushed ∙ ap (λ zs. zs ++ x ∷ []) before.0 ∙ ap (λ z. map decode (take at rows) ++ z ∷ []) (is ∙ ap decode read) ∙ sym (map_more decode rows at answered within),
    subst (All P) (sym pushed) (All-push P xs x before.1 ranged),
  )
