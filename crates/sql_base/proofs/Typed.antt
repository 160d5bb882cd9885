-- Typed rows, if the rows that encode them are changed or removed.
use Rattle.std.proofs.Common.{IsTrue, ◌≡◌, List, [], ◌∷◌, drop, filter, map, not, cond, Bool, true, false, refl, sym, ap, ap₂, subst, ◌∙◌}
use Rattle.std.specs.List.{AllByRecursion}
use Rattle.std.specs.List.Sorted.{IsPermutation}
use Rattle.std.proofs.lemmas.List.Sorted.{IsPermutation-map}
use Rattle.sqlite.specs.declared.types.Value.{Value}
use Rattle.sqlite.specs.Order.{Row}
use Rattle.sqlite.specs.Tree.{rowid}
use Rattle.sqlite.specs.View.{is_int}
use Rattle.sqlite_keyed.proofs.ListLemmas.{IsPermutation-filter, filter-map, filter_same}
use Rattle.sql_base.proofs.Replacing.{changed_by}
use Rattle.sql_base.proofs.Selecting.{map_map, map_same}

module _ {X : Type 0} (encode : X → Row) (hit : Row → Bool) (test : X → Bool) (typed_hit : (x : X) → hit (encode x) ≡ test x) where
  module _ (alter : Row → Row) (change : X → X) (typed_change : (x : X) → alter (encode x) ≡ encode (change x)) where
    -- the value, changed if it passes
    abbrev pub set_where : X → X
    set_where x = cond (test x) (change x) x

    typed : (x : X) → cond (hit (encode x)) (alter (encode x)) (encode x) ≡ encode (set_where x)
    typed x = ap (λ b. cond b (alter (encode x)) (encode x)) (typed_hit x) ∙ at_test (test x)
      where
        at_test : (b : Bool) → cond b (alter (encode x)) (encode x) ≡ encode (cond b (change x) x)
        at_test true = typed_change x
        at_test false = refl

    pub typed_set : (xs : List X) (stored : List Row) → IsPermutation (map encode xs) stored → IsPermutation (map encode (map set_where xs)) (changed_by hit alter stored)
    typed_set xs stored same =
        let set = λ (r : Row). cond (hit r) (alter r) r in
        let is = map_map set encode xs ∙ map_same (λ x. set (encode x)) (λ x. encode (set_where x)) typed xs ∙ sym (map_map encode set_where xs) in
        subst (λ rows. IsPermutation rows (changed_by hit alter stored)) is (IsPermutation-map set _ _ same)

  pub typed_left : (xs : List X) (stored : List Row) → IsPermutation (map encode xs) stored
      → IsPermutation (map encode (filter (λ x. not (test x)) xs)) (filter (λ r. not (hit r)) stored)
  typed_left xs stored same =
      let is = filter-map (λ r. not (hit r)) encode xs ∙ ap (map encode) (filter_same (λ x. not (hit (encode x))) (λ x. not (test x)) (λ x. ap not (typed_hit x)) xs) in
      subst (λ rows. IsPermutation rows (filter (λ r. not (hit r)) stored)) is (IsPermutation-filter (λ r. not (hit r)) _ _ same)

-- Rows with rowids, shown without them: the effect of a change or removal whose test doesn't depend
-- on the rowid.
module _ (hit : Row → Bool) (whole_hit : Row → Bool) (blind_hit : (v : Value) (r : Row) → whole_hit (v ∷ r) ≡ hit r) where
  pub given_left : (rows : List Row) → AllByRecursion (λ r. IsTrue (is_int (rowid r))) rows
      → map (drop 1) (filter (λ r. not (whole_hit r)) rows) ≡ filter (λ r. not (hit r)) (map (drop 1) rows)
  given_left [] ints = refl
  given_left ([] ∷ rows) ints = absurd (let never = ints.0 in cc)
  given_left ((v ∷ r) ∷ rows) ints = rw blind_hit (at_test (hit r) (given_left rows ints.1))
    where
      at_test : (b : Bool) → map (drop 1) (filter (λ x. not (whole_hit x)) rows) ≡ filter (λ x. not (hit x)) (map (drop 1) rows)
          → map (drop 1) (cond (not b) ((v ∷ r) ∷ filter (λ x. not (whole_hit x)) rows) (filter (λ x. not (whole_hit x)) rows))
          ≡ cond (not b) (r ∷ filter (λ x. not (hit x)) (map (drop 1) rows)) (filter (λ x. not (hit x)) (map (drop 1) rows))
      at_test true rest = rest
      at_test false rest = ap (λ xs. r ∷ xs) rest

  module _ (alter : Row → Row) (whole_alter : Row → Row) (blind_alter : (v : Value) (r : Row) → drop 1 (whole_alter (v ∷ r)) ≡ alter r) where
    pub given_changed : (rows : List Row) → AllByRecursion (λ r. IsTrue (is_int (rowid r))) rows
        → map (drop 1) (changed_by whole_hit whole_alter rows) ≡ changed_by hit alter (map (drop 1) rows)
    given_changed [] ints = refl
    given_changed ([] ∷ rows) ints = absurd (let never = ints.0 in cc)
    given_changed ((v ∷ r) ∷ rows) ints = ap₂ ◌∷◌ (ap (λ b. drop 1 (cond b (whole_alter (v ∷ r)) (v ∷ r))) (blind_hit v r) ∙ at_test (hit r)) (given_changed rows ints.1)
      where
        at_test : (b : Bool) → drop 1 (cond b (whole_alter (v ∷ r)) (v ∷ r)) ≡ cond b (alter r) r
        at_test true = blind_alter v r
        at_test false = refl
