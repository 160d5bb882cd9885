use Rattle.std.proofs.Common.{◌≡◌, ℕ, zero, suc, ◌+◌, ◌<◌, List, [], ◌∷◌, map, filter, length, get_or, false, All, refl, sym, ap, subst, ◌∙◌, arith}
use Rattle.std.specs.Ordering.{is_lt}
use Rattle.std.specs.List.Sorted.{IsPermutation}
use Rattle.std.proofs.lemmas.List.Sorted.{IsPermutation-map, All-permutation}
use Rattle.sqlite.specs.Order.{Row, column}
use Rattle.sqlite_value.specs.Order.{value_cmp}
use Rattle.sqlite_value.proofs.OrderLemmas.{then-Equal}
use Rattle.sqlite.specs.Tree.{Trees}
use Rattle.sqlite.specs.Term.{Term, Env, eval_all}
use Rattle.sqlite.specs.Query.{IsAnswer, Output, output}
use Rattle.sqlite.specs.Program.{overlay}
use Rattle.sql_base.proofs.Selecting.{passes, shown, matched, no_overlay, map_map}
use Rattle.sql_base.specs.Queries.{IsRising, by_first}

get_mapped : {A B : Type 0} (f : A → B) (xs : List A) (k : ℕ) (d : A) → get_or (map f xs) k (f d) ≡ f (get_or xs k d)
get_mapped f [] k d = refl
get_mapped f (x ∷ xs) zero d = refl
get_mapped f (x ∷ xs) (suc k) d = get_mapped f xs k d

length_mapped : {A B : Type 0} (f : A → B) (xs : List A) → length (map f xs) ≡ length xs
length_mapped f [] = refl
length_mapped f (x ∷ xs) = ap suc (length_mapped f xs)

-- The sort key is the first column.
abbrev Keyed : Output → Type 0
Keyed o = column o.0 0 ≡ column o.1 0

module _ (tree : ℕ) (filters : List Term) (first : Term) (more : List Term) where
  all_keyed : (envs : List Env) → All Keyed (map (output (by_first tree filters first more)) envs)
  all_keyed [] i d low = absurd (omega arith)
  all_keyed (e ∷ envs) zero d low = refl
  all_keyed (e ∷ envs) (suc i) d low = all_keyed envs i d (omega arith)

  -- the rows that pass, as shown, in the order of the first column
  pub in_order : (db : Trees) (params : Row) (rows : List Row) → IsAnswer (by_first tree filters first more) (overlay db []) params rows
      → IsPermutation (map (shown (first ∷ more) params) (filter (passes filters params) (db tree))) rows × IsRising rows
  in_order db params rows a =
      let q = by_first tree filters first more in
      let found : a.staged ≡ map (λ r. params ∷ r ∷ []) (filter (passes filters params) (db tree)) = a.grouped ∙ matched filters params (overlay db [] tree) ∙ ap (λ rs. map (λ r. params ∷ r ∷ []) (filter (passes filters params) rs)) (no_overlay db tree) in
      let all : map (λ (p : Output). p.1) a.kept ≡ map (shown (first ∷ more) params) (filter (passes filters params) (db tree)) =
      ap (map (λ (p : Output). p.1)) (a.distinct ∙ ap (map (output q)) found)
      ∙ map_map (λ (p : Output). p.1) (output q) (map (λ r. params ∷ r ∷ []) (filter (passes filters params) (db tree)))
      ∙ map_map (λ (e : Env). eval_all (first ∷ more) e) (λ r. params ∷ r ∷ []) (filter (passes filters params) (db tree)) in
      let keyed : All Keyed a.ordered = All-permutation Keyed _ _ a.same (subst (All Keyed) (sym a.distinct) (all_keyed a.staged)) in
      let rises : IsRising (map (λ (p : Output). p.1) a.ordered) = λ k d low.
      let e : Output = (d, d) in
      let within : k + 1 < length a.ordered = omega (arith, length_mapped (λ (p : Output). p.1) a.ordered) in
      let x = get_or a.ordered (k + 1) e in
      let y = get_or a.ordered k e in
      let below : is_lt (value_cmp (column x.0 0) (column y.0 0)) ≡ false = ap is_lt (sym (then-Equal (value_cmp (column x.0 0) (column y.0 0)))) ∙ a.sorted k e (omega arith) within in
      let typed : is_lt (value_cmp (column x.1 0) (column y.1 0)) ≡ false = ap (λ v. is_lt (value_cmp v (column y.1 0))) (sym (keyed (k + 1) e within)) ∙ ap (λ v. is_lt (value_cmp (column x.0 0) v)) (sym (keyed k e (omega arith))) ∙ below in
      ap (λ (r : Row). is_lt (value_cmp (column r 0) (column (get_or (map (λ (p : Output). p.1) a.ordered) k d) 0))) (get_mapped (λ (p : Output). p.1) a.ordered (k + 1) e)
      ∙ ap (λ (r : Row). is_lt (value_cmp (column x.1 0) (column r 0))) (get_mapped (λ (p : Output). p.1) a.ordered k e) ∙ typed in (
        subst (λ xs. IsPermutation xs rows) all (subst (IsPermutation (map (λ (p : Output). p.1) a.kept)) (sym a.shown) (IsPermutation-map (λ (p : Output). p.1) a.kept a.ordered a.same)),
        subst IsRising (sym a.shown) rises,
      )
