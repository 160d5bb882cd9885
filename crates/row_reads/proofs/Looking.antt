-- Lemmas about what a query over one table shows of the table's rows.
use Rattle.std.proofs.Common.{◌≡◌, suc, Bool, List, [], ◌∷◌, map, Option, Some, None, inl, inr, refl, sym, ap, subst, ◌∙◌, arith}
use Rattle.std.specs.Prelude.{filter, find}
use Rattle.std.specs.List.Sorted.{IsPermutation}
use Rattle.std.specs.Option.{option_to_list}
use Rattle.std.proofs.lemmas.Bool.{cases_Bool}
use Rattle.std.proofs.lemmas.List.Elements.{filter_agree}
use Rattle.std.proofs.lemmas.List.Sorted.{IsPermutation-map, IsPermutation-trans}
use Rattle.sqlite.specs.Order.{Row}
use Rattle.sqlite.proofs.Callers.{one_permutation}
use Rattle.sqlite_keyed.proofs.ListLemmas.{IsPermutation-filter, filter-map}
use Rattle.sql_base.proofs.Replacing.{nothing_found}
use Rattle.sql_base.proofs.Selecting.{map_map, map_same}
use Rattle.table_rows.specs.Tables.{PassesOnce}
use Rattle.table_rows.proofs.Found.{filter_none}

-- a stored row, shown with or without its rowid
module _ {X : Type 0} (encode : X → Row) (view : Row → Row) (hit hit_seen : Row → Bool) (key : X → Bool) (show show_seen : Row → Row) (given : X → Row)
    (hit_is : (r : Row) → hit r ≡ hit_seen (view r)) (show_is : (r : Row) → show r ≡ show_seen (view r))
    (key_is : (x : X) → hit_seen (encode x) ≡ key x) (given_is : (x : X) → show_seen (encode x) ≡ given x) where
  seen : (stored : List Row) → map show (filter hit stored) ≡ map show_seen (filter hit_seen (map view stored))
  seen stored =
      map_same show (λ r. show_seen (view r)) show_is (filter hit stored)
      ∙ ap (map (λ r. show_seen (view r))) (filter_agree hit (λ r. hit_seen (view r)) hit_is stored)
      ∙ sym (map_map show_seen view (filter (λ r. hit_seen (view r)) stored))
      ∙ sym (ap (map show_seen) (filter-map hit_seen view stored))

  encoded : (xs : List X) → map show_seen (filter hit_seen (map encode xs)) ≡ map given (filter key xs)
  encoded xs =
      ap (map show_seen) (filter-map hit_seen encode xs ∙ ap (map encode) (filter_agree (λ x. hit_seen (encode x)) key key_is xs))
      ∙ map_map show_seen encode (filter key xs) ∙ map_same (λ x. show_seen (encode x)) given given_is (filter key xs)

  -- the result is what the rows with the key show
  pub looked_up : (xs : List X) (stored rows : List Row) → IsPermutation (map encode xs) (map view stored) → IsPermutation (map show (filter hit stored)) rows
      → IsPermutation (map given (filter key xs)) rows
  looked_up xs stored rows held got =
      IsPermutation-trans _ _ _
      (subst (λ zs. IsPermutation zs (map show_seen (filter hit_seen (map view stored)))) (encoded xs) (IsPermutation-map show_seen _ _ (IsPermutation-filter hit_seen _ _ held)))
      (subst (λ zs. IsPermutation zs rows) (seen stored) got)

module _ {X : Type 0} (p : X → Bool) where
  filter_once : (xs : List X) → PassesOnce p xs → filter p xs ≡ option_to_list (find p xs)
  filter_once [] once = refl
  filter_once (x ∷ xs) once = elim (cases_Bool (p x)) [
    | inl hit ↦
        let none : filter p xs ≡ [] = filter_none p xs (λ k d within. once 0 (suc k) d (omega arith) (omega arith) hit) in
        rw (hit, none) refl
    | inr miss ↦ rw miss (filter_once xs (λ i j d before within. once (suc i) (suc j) d (omega arith) (omega arith)))
  ]

  -- if at most one element satisfies `p`, the result has at most its row
  pub one_answered : (given : X → Row) (xs : List X) (rows : List Row) → PassesOnce p xs → IsPermutation (map given (filter p xs)) rows → rows ≡ map given (option_to_list (find p xs))
  one_answered given xs rows once got = few (find p xs) (subst (λ zs. IsPermutation (map given zs) rows) (filter_once xs once) got)
    where
      few : (o : Option X) → IsPermutation (map given (option_to_list o)) rows → rows ≡ map given (option_to_list o)
      few None none = nothing_found rows none
      few (Some x) one = one_permutation (given x) rows one
