-- Rows keyed by a number, for look-ups.
use Rattle.std.specs.Prelude.{◌≡◌, ◌==◌, ℕ, if◌then◌else◌, List, Option, Some, None, bytes_eq, filter, map}
use Rattle.std.specs.BTreeMap.{BTreeMap, get_by}
use Rattle.std.specs.Cmp.Lexicographic.{slice_cmp}
use Rattle.std.specs.List.{list_any, position_or_len}
use Rattle.std.specs.List.Sorted.{IsNonDecreasingBy}
use Rattle.std.specs.Ordering.{nat_cmp}
use denote.Ref.{Bor}

-- `keyed` contains exactly `rows`, with the key `number` and sorted by it. Rows with the same key
-- are in their original order.
pub record AreKeyed {X : Type 0} (number : X → ℕ) (rows : List X) (keyed : List (ℕ × X)) : Type 0 where
  pub rising : IsNonDecreasingBy (λ (k : ℕ × X). k.0) keyed
  pub found : (v : ℕ) → filter (λ (k : ℕ × X). k.0 == v) keyed ≡ map (λ (x : X). (number x, x)) (filter (λ (x : X). number x == v) rows)

-- the position of the client `name` among the clients `names`
abbrev pub place_of : List (List ℕ) → List ℕ → ℕ
place_of names name = position_or_len (bytes_eq name) names

-- the position of the client `name` if it is among the clients `names`
abbrev pub found_at : List (List ℕ) → List ℕ → Option ℕ
found_at names name = if list_any (bytes_eq name) names then Some (place_of names name) else None

-- The map `places` contains exactly the clients `names`, each with its position.
abbrev pub ArePlaces : BTreeMap (Bor (List ℕ)) ℕ → List (List ℕ) → Type 0
ArePlaces places names = (name : List ℕ) → get_by (λ key. slice_cmp nat_cmp name key.now) places ≡ found_at names name
