-- Lemmas about the loops that find the first grouping of each rank and then collect the ranks.
use Rattle.std.proofs.Common.{◌≡◌, ◌≢◌, ◌==◌, ◌+◌, ◌-◌, ◌<◌, ◌≤◌, ℕ, zero, suc, Bool, cond, true, false, inl, inr, List, [], ◌∷◌, ◌++◌, get_or, length, set, take, Option, Some, None, refl, sym, ap, ◌∙◌, arith}
use Rattle.std.specs.Prelude.{find, is_some, option_map}
use Rattle.std.specs.Option.{option_or}
use Rattle.std.specs.List.{cons_option, filter_map, range_with_len}
use Rattle.std.proofs.lemmas.Bool.{cases_Bool}
use Rattle.std.proofs.lemmas.Bool.Decides.{nat_tests}
use Rattle.std.proofs.lemmas.List.{append-nil, get_or-set_other, get_or-set_same, take_more}
use Rattle.std.proofs.lemmas.List.Elements.{filter_map-append}
use Rattle.std.proofs.lemmas.List.Folds.{find-append}
use Rattle.row_reads.specs.declared.groupings.GroupingAt.{GroupingAt}
use Rattle.store_reads.specs.declared.plans.SegmentHead.{SegmentHead}
use Rattle.store_reads.specs.Segments.{head_of_rank, head_with}

or_none : (o : Option SegmentHead) → option_or o None ≡ o
or_none None = refl
or_none (Some h) = refl

pub not_some : (o : Option SegmentHead) → is_some o ≡ false → o ≡ None
not_some None none = refl
not_some (Some h) none = absurd (cc none)

-- ---- one more grouping

module _ (gs : List GroupingAt) (i : ℕ) (d : GroupingAt) (within : i < length gs) where
  abbrev one : GroupingAt
  one = get_or gs i d

  first_more : (k : ℕ) → head_of_rank (take (i + 1) gs) k ≡ option_or (head_of_rank (take i gs) k) (cond (one.rank == k) (Some (head_with k one)) None)
  first_more k =
      ap (λ xs. head_of_rank xs k) (take_more gs i d within)
      ∙ ap (option_map (head_with k)) (find-append (λ (g : GroupingAt). g.rank == k) (take i gs) (one ∷ []))
      ∙ split (find (λ (g : GroupingAt). g.rank == k) (take i gs)) (one.rank == k)
    where
      split : (o : Option GroupingAt) (b : Bool) → option_map (head_with k) (option_or o (cond b (Some one) None)) ≡ option_or (option_map (head_with k) o) (cond b (Some (head_with k one)) None)
      split (Some g) b = refl
      split None true = refl
      split None false = refl

  module _ (firsts : List (Option SegmentHead)) (k : ℕ) (is : get_or firsts k None ≡ head_of_rank (take i gs) k) where
    -- a grouping with another rank
    other_rank : (one.rank == k) ≡ false → get_or firsts k None ≡ head_of_rank (take (i + 1) gs) k
    other_rank miss =
        is ∙ sym (first_more k ∙ ap (λ b. option_or (head_of_rank (take i gs) k) (cond b (Some (head_with k one)) None)) miss ∙ or_none (head_of_rank (take i gs) k))

    -- the first grouping with its rank
    pub first_put : one.rank < length firsts → get_or firsts one.rank None ≡ None → get_or (set firsts one.rank (Some (head_with one.rank one))) k None ≡ head_of_rank (take (i + 1) gs) k
    first_put room none = elim (cases_Bool (one.rank == k)) [
      | inl hit ↦
          let same : k ≡ one.rank = grind (arith, nat_tests, hit) in
          let before : head_of_rank (take i gs) k ≡ None = sym is ∙ ap (λ n. get_or firsts n None) same ∙ none in
          ap (λ n. get_or (set firsts one.rank (Some (head_with one.rank one))) n None) same
          ∙ get_or-set_same firsts one.rank (Some (head_with one.rank one)) None room
          ∙ ap (λ n. Some (head_with n one)) (sym same)
          ∙ sym (first_more k ∙ ap (λ o. option_or o (cond (one.rank == k) (Some (head_with k one)) None)) before ∙ ap (λ b. cond b (Some (head_with k one)) None) hit)
      | inr miss ↦
          let other : k ≢ one.rank = grind (arith, nat_tests, miss) in
          get_or-set_other firsts one.rank k (Some (head_with one.rank one)) None other ∙ other_rank miss
    ]

    -- not the first grouping with its rank
    pub first_kept : is_some (get_or firsts one.rank None) ≡ true → get_or firsts k None ≡ head_of_rank (take (i + 1) gs) k
    first_kept some = elim (cases_Bool (one.rank == k)) [
      | inl hit ↦
          let same : k ≡ one.rank = grind (arith, nat_tests, hit) in
          let there : is_some (head_of_rank (take i gs) k) ≡ true = ap is_some (sym is ∙ ap (λ n. get_or firsts n None) same) ∙ some in
          is ∙ first_stays (head_of_rank (take i gs) k) there (cond (one.rank == k) (Some (head_with k one)) None) ∙ sym (first_more k)
      | inr miss ↦ other_rank miss
    ]
      where
        first_stays : (o : Option SegmentHead) → is_some o ≡ true → (more : Option SegmentHead) → o ≡ option_or o more
        first_stays None there more = absurd (cc there)
        first_stays (Some h) there more = refl

-- ---- one more rank

range_more : (a n : ℕ) → range_with_len a (n + 1) ≡ range_with_len a n ++ (a + n) ∷ []
range_more a zero = let e : a + 0 ≡ a = omega arith in rw e refl
range_more a (suc n) =
    let more : suc n + 1 ≡ suc (n + 1) = omega arith in
    let end : a + 1 + n ≡ a + suc n = omega arith in
    ap (range_with_len a) more ∙ ap (λ ks. a ∷ ks) (range_more (a + 1) n) ∙ ap (λ m. a ∷ (range_with_len (a + 1) n ++ m ∷ [])) end

module _ (f : ℕ → Option SegmentHead) (k : ℕ) (least : 1 ≤ k) (before after : List SegmentHead) (is : before ≡ filter_map f (range_with_len 1 (k - 1))) where
  heads_more : filter_map f (range_with_len 1 (k + 1 - 1)) ≡ before ++ cons_option (f k) []
  heads_more =
      let n = k - 1 in
      let more : k + 1 - 1 ≡ n + 1 = omega arith in
      let at : 1 + n ≡ k = omega arith in
      ap (λ m. filter_map f (range_with_len 1 m)) more ∙ ap (filter_map f) (range_more 1 n) ∙ filter_map-append f (range_with_len 1 n) ((1 + n) ∷ [])
      ∙ ap (λ m. filter_map f (range_with_len 1 n) ++ cons_option (f m) []) at ∙ ap (λ hs. hs ++ cons_option (f k) []) (sym is)

  pub head_put : (h : SegmentHead) → f k ≡ Some h → after ≡ before ++ h ∷ [] → after ≡ filter_map f (range_with_len 1 (k + 1 - 1))
  head_put h hit more = more ∙ sym (heads_more ∙ ap (λ o. before ++ cons_option o []) hit)

  pub head_passed : f k ≡ None → after ≡ before → after ≡ filter_map f (range_with_len 1 (k + 1 - 1))
  head_passed miss same = same ∙ sym (heads_more ∙ ap (λ o. before ++ cons_option o []) miss ∙ append-nil before)
