-- Request numbers and release marks with borrowed names of clients.
use Rattle.std.specs.Prelude.{ℕ, List, unwrap_or}
use Rattle.std.specs.BTreeMap.{BTreeMap, get_by}
use Rattle.std.specs.Cmp.Lexicographic.{slice_cmp}
use Rattle.std.specs.Ordering.{nat_cmp}
use denote.Ref.{Bor}

-- the name and the number of a pair
abbrev pub named : Bor (List ℕ) × ℕ → List ℕ × ℕ
named pair = (pair.0.now, pair.1)

-- the release mark of `client` in the map `uptos`, or 0 if the map lacks `client`
unfoldable pub mark_at : BTreeMap (Bor (List ℕ)) ℕ → List ℕ → ℕ
mark_at uptos client = unwrap_or (get_by (λ name. slice_cmp nat_cmp client name.now) uptos) 0
