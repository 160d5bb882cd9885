-- Lists sorted by a number, and the elements with the lowest and the highest number.
use Rattle.std.specs.Prelude.{◌≡◌, ◌≤◌, ℕ, nat_le, Bool, List, [], ◌∷◌, All, Contains, filter, Option, Some, None}
use Rattle.std.specs.List.Sorted.{IsNonDecreasingBy, IsPermutation}
use Rattle.job_facts.specs.declared.facts.Lot.{Lot}

-- `ys` has the elements of `xs`, sorted by `n`.
abbrev pub AreSorted : {X : Type 0} → (X → ℕ) → List X → List X → Type 0
AreSorted n xs ys = IsPermutation xs ys × IsNonDecreasingBy n ys

-- The last argument is an element of `xs` with the lowest number, or `None` if `xs` is empty.
abbrev pub IsLeastBy : {X : Type 0} → (X → ℕ) → List X → Option X → Type 0
IsLeastBy n xs None = xs ≡ []
IsLeastBy n xs (Some x) = Contains xs x × All (λ y. n x ≤ n y) xs

-- The last argument is an element of `xs` with the highest number, or `None` if `xs` is empty.
abbrev pub IsGreatestBy : {X : Type 0} → (X → ℕ) → List X → Option X → Type 0
IsGreatestBy n xs None = xs ≡ []
IsGreatestBy n xs (Some x) = Contains xs x × All (λ y. n y ≤ n x) xs

-- `n` is the highest number in the list, or 0 if the list is empty.
abbrev pub IsGreatest : List ℕ → ℕ → Type 0
IsGreatest [] n = n ≡ 0
IsGreatest (x ∷ xs) n = Contains (x ∷ xs) n × All (λ m. m ≤ n) (x ∷ xs)

-- The lot begins at or before `serial`.
abbrev pub begins_by : ℕ → Lot → Bool
begins_by serial l = nat_le l.first serial

-- `found` is the last of `lots` that begins at or before `serial`, or `None` if none of them does.
abbrev pub IsLastBegun : ℕ → List Lot → Option Lot → Type 0
IsLastBegun serial lots found = IsGreatestBy (λ (l : Lot). l.first) (filter (begins_by serial) lots) found
