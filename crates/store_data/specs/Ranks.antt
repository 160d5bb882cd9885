-- Grouping items by rank. The rank of a row determines the position of its segment in the
-- application.
use Rattle.std.specs.Prelude.{◌==◌, ◌≤◌, ℕ, List, [], ◌∷◌, filter}
use Rattle.std.specs.List.{flat_map, range_with_len}

-- `r` is a rank that a row may have (this project's profile).
abbrev pub IsRank : ℕ → Type 0
IsRank r = (1 ≤ r) × (r ≤ 999)

-- all ranks that a row may have, in rising order
unfoldable pub ranks : List ℕ
ranks = range_with_len 1 999

-- a list with the given list as its only group, or without groups if the given list is empty
abbrev pub group_of : {X : Type 0} → List X → List (List X)
group_of [] = []
group_of (x ∷ more) = (x ∷ more) ∷ []

module _ {X : Type 0} where
  -- the items with rank `r`, in their order
  abbrev pub of_rank : (X → ℕ) → List X → ℕ → List X
  of_rank rank items r = filter (λ x. rank x == r) items

  -- the items grouped by rank, in the order of rising rank. The items of a group keep their order.
  unfoldable pub by_rank : (X → ℕ) → List X → List (List X)
  by_rank rank items = flat_map (λ r. group_of (of_rank rank items r)) ranks
