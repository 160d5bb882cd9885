-- Proves the result of the router after a word of its patterns, and after a name.
use Rattle.std.proofs.Common.{◌≡◌, ℕ, zero, suc, ◌-◌, ◌≤◌, ◌==◌, ltb, Bool, true, false, cond, List, [], ◌∷◌, ◌++◌, length, drop, Option, Some, None, refl, sym, ap, subst, ◌∙◌, arith, nat_eq, length-append, add-one}
use Rattle.std.specs.Prelude.{◌&&◌, bytes_eq}
use Rattle.std.specs.List.{list_all}
use Rattle.std.specs.Cmp.Lexicographic.{pointwise}
use Rattle.std.proofs.Math.Seq.{drop-append_seam}
use Rattle.std.proofs.lemmas.Bool.{and_parts}
use Rattle.std.proofs.lemmas.Bool.Decides.{nat_tests}
use Rattle.matchit.specs.Rows.{RowsOf}
use Rattle.matchit.specs.Seek.{cuts, has_slash, longest_from, longest_suffix, or_else, own, param_step, seek, segment, step, with_suffix}

-- ---- texts without a slash

pub no_slash : (b : ℕ) (x : List ℕ) → has_slash (b ∷ x) ≡ false → ((b == 47) ≡ false) × (has_slash x ≡ false)
no_slash b x h = by (b == 47) refl h
  where
    by : (v : Bool) → (b == 47) ≡ v → cond v true (has_slash x) ≡ false → ((b == 47) ≡ false) × (has_slash x ≡ false)
    by true e h = cc
    by false e h = (e, h)

pub segment_last : (x : List ℕ) → has_slash x ≡ false → segment x ≡ x
segment_last [] h = refl
segment_last (b ∷ x) h = let f = no_slash b x h in rw f.0 (ap (λ t. b ∷ t) (segment_last x f.1))

pub segment_more : (x u : List ℕ) → has_slash x ≡ false → segment (x ++ 47 ∷ u) ≡ x ++ 47 ∷ []
segment_more [] u h = refl
segment_more (b ∷ x) u h = let f = no_slash b x h in rw f.0 (ap (λ t. b ∷ t) (segment_more x u f.1))

slash_more : (x u : List ℕ) → has_slash (x ++ 47 ∷ u) ≡ true
slash_more [] u = refl
slash_more (b ∷ x) u = rw (slash_more x u) (elim (b == 47) as (λ v. cond v true true ≡ true) [ true ↦ refl | false ↦ refl ])

-- a text is one segment, or a segment followed by a slash and more
pub by_cut : (P : List ℕ → Type 0) → ((x : List ℕ) → has_slash x ≡ false → P x) → ((x u : List ℕ) → has_slash x ≡ false → P (x ++ 47 ∷ u)) → (t : List ℕ) → P t
by_cut P one more [] = one [] refl
by_cut P one more (b ∷ t) =
    by (b == 47) refl (by_cut (λ s. (b == 47) ≡ false → P (b ∷ s)) (λ x h e. one (b ∷ x) (rw e h)) (λ x u h e. more (b ∷ x) u (rw e h)) t)
  where
    by : (v : Bool) → (b == 47) ≡ v → ((b == 47) ≡ false → P (b ∷ t)) → P (b ∷ t)
    by true e rest = let is : b ≡ 47 = grind (arith, nat_tests) in subst (λ c. P (c ∷ t)) (sym is) (more [] t refl)
    by false e rest = rest e

-- the segment of a name doesn't end with a slash
ends_bare : (b : ℕ) (x : List ℕ) → has_slash (b ∷ x) ≡ false → pointwise nat_eq (47 ∷ []) (drop (length x) (b ∷ x)) ≡ false
ends_bare b [] h = let f = no_slash b [] h in let n : nat_eq 47 b ≡ false = let g = f.0 in grind (arith, nat_tests, g) in rw n refl
ends_bare b (c ∷ x) h = ends_bare c x (no_slash b (c ∷ x) h).1

cuts_last : (b : ℕ) (x : List ℕ) → has_slash (b ∷ x) ≡ false → cuts (b ∷ x) (47 ∷ []) ≡ false
cuts_last b x h =
    let one : suc (length x) - 1 ≡ length x = omega arith in
    rw (one, ends_bare b x h) (elim (ltb 1 (suc (length x))) as (λ v. (v && false) ≡ false) [ true ↦ refl | false ↦ refl ])

cuts_more : (b : ℕ) (x : List ℕ) → cuts (b ∷ x ++ 47 ∷ []) (47 ∷ []) ≡ true
cuts_more b x =
    let long : length (x ++ 47 ∷ []) ≡ suc (length x) = length-append x (47 ∷ []) ∙ add-one (length x) in
    let one : suc (suc (length x)) - 1 ≡ length (b ∷ x) = omega arith in
    let some : ltb 1 (suc (suc (length x))) ≡ true = grind (arith, nat_tests) in
    rw (long, some, one, drop-append_seam (b ∷ x) (47 ∷ [])) refl

-- the elements before the first slash are bytes, and there is a slash
abbrev pub worded : List ℕ → Bool
worded [] = false
worded (x ∷ t) = ltb x 256 && cond (x == 47) true (worded t)

module _ {K : Type 0} where
  -- ---- no rows, and rows that begin with a byte

  step_none : (p : List ℕ) → (param_step {K = K} [] p).1 ≡ []
  unfolding param_step
  step_none p = elim (has_slash p) as (λ v. (cond {A = ℕ × RowsOf K} v (0, []) (length p, [])).1 ≡ []) [ true ↦ refl | false ↦ refl ]

  pub seek_none : (k : ℕ) (p : List ℕ) → seek {K = K} k [] p ≡ None
  unfolding seek
  seek_none k [] = refl
  seek_none (suc k) (b ∷ p) = seek_none k p
  seek_none zero (b ∷ p) = simp (seek_none 0 p, step_none (b ∷ p), seek_none (((param_step {K = K} [] (b ∷ p)).0) - 1) p)

  or_else_none : (a : Option K) → or_else a None ≡ a
  or_else_none None = refl
  or_else_none (Some k) = refl

  pub seek_byte : (rs : RowsOf K) (b : ℕ) (p : List ℕ) → step 256 rs ≡ [] → step 257 rs ≡ [] → seek 0 rs (b ∷ p) ≡ seek 0 (step b rs) p
  unfolding seek
  seek_byte rs b p one two = simp (one, two, step_none (b ∷ p), seek_none ((param_step {K = K} [] (b ∷ p)).0 - 1) p, or_else_none)

  -- bytes that are skipped
  seek_past : (rs : RowsOf K) (x u : List ℕ) → seek (length x) rs (x ++ u) ≡ seek 0 rs u
  unfolding seek
  seek_past rs [] u = refl
  seek_past rs (b ∷ x) u = seek_past rs x u

  seek_all : (rs : RowsOf K) (x : List ℕ) → seek (length x) rs x ≡ own rs
  unfolding seek
  seek_all rs [] = refl
  seek_all rs (b ∷ x) = seek_all rs x

  -- ---- words

  abbrev pub all_worded : RowsOf K → Bool
  all_worded [] = true
  all_worded ((t, k) ∷ rs) = worded t && all_worded rs

  worded_wild : (w : ℕ) (rs : RowsOf K) → 256 ≤ w → all_worded rs ≡ true → step w rs ≡ []
  worded_wild w [] wide h = refl
  worded_wild w (([], k) ∷ rs) wide h = worded_wild w rs wide (cc)
  worded_wild w ((x ∷ t, k) ∷ rs) wide h =
      let both = and_parts (worded (x ∷ t)) (all_worded rs) h in
      let small = (and_parts (ltb x 256) (cond (x == 47) true (worded t)) both.0).0 in
      let other : (x == w) ≡ false = grind (arith, nat_tests, small) in
      rw other (worded_wild w rs wide both.1)

  worded_next : (b : ℕ) (rs : RowsOf K) → (b == 47) ≡ false → all_worded rs ≡ true → all_worded (step b rs) ≡ true
  worded_next b [] n h = refl
  worded_next b (([], k) ∷ rs) n h = worded_next b rs n (cc)
  worded_next b ((x ∷ t, k) ∷ rs) n h =
      let both = and_parts (worded (x ∷ t)) (all_worded rs) h in
      by (x == b) refl (and_parts (ltb x 256) (cond (x == 47) true (worded t)) both.0).1 (worded_next b rs n both.1)
    where
      by : (v : Bool) → (x == b) ≡ v → cond (x == 47) true (worded t) ≡ true → all_worded (step b rs) ≡ true → all_worded (cond v ((t, k) ∷ step b rs) (step b rs)) ≡ true
      by true e after rest =
          let other : (x == 47) ≡ false = grind (arith, nat_tests) in
          let word = rw other at after in
          rw (word, rest) refl
      by false e after rest = rest

  worded_own : (rs : RowsOf K) → all_worded rs ≡ true → own rs ≡ None
  worded_own [] h = refl
  worded_own (([], k) ∷ rs) h = cc
  worded_own ((x ∷ t, k) ∷ rs) h = worded_own rs (and_parts (worded (x ∷ t)) (all_worded rs) h).1

  -- the rows after a word and a slash
  abbrev pub follow : List ℕ → RowsOf K → RowsOf K
  follow [] rs = step 47 rs
  follow (b ∷ w) rs = follow w (step b rs)

  pub word_alone : (rs : RowsOf K) (w : List ℕ) → all_worded rs ≡ true → has_slash w ≡ false → seek 0 rs w ≡ None
  unfolding seek
  word_alone rs [] a h = worded_own rs a
  word_alone rs (b ∷ w) a h =
      let f = no_slash b w h in
      seek_byte rs b w (worded_wild 256 rs (omega arith) a) (worded_wild 257 rs (omega arith) a) ∙ word_alone (step b rs) w (worded_next b rs f.0 a) f.1

  pub word_more : (rs : RowsOf K) (w u : List ℕ) → all_worded rs ≡ true → has_slash w ≡ false → seek 0 rs (w ++ 47 ∷ u) ≡ seek 0 (follow w rs) u
  word_more rs [] u a h = seek_byte rs 47 u (worded_wild 256 rs (omega arith) a) (worded_wild 257 rs (omega arith) a)
  word_more rs (b ∷ w) u a h =
      let f = no_slash b w h in
      seek_byte rs b (w ++ 47 ∷ u) (worded_wild 256 rs (omega arith) a) (worded_wild 257 rs (omega arith) a) ∙ word_more (step b rs) w u (worded_next b rs f.0 a) f.1

  pub follow_none : (w : List ℕ) → follow w [] ≡ []
  follow_none [] = refl
  follow_none (b ∷ w) = follow_none w

  pub follow_row : (w word rest : List ℕ) (k : K) (rs : RowsOf K) → has_slash w ≡ false → has_slash word ≡ false
      → follow w ((word ++ 47 ∷ rest, k) ∷ rs) ≡ cond (bytes_eq w word) ((rest, k) ∷ follow w rs) (follow w rs)
  follow_row [] [] rest k rs h g = refl
  follow_row [] (x ∷ word) rest k rs h g = rw (no_slash x word g).0 refl
  follow_row (b ∷ w) [] rest k rs h g =
      let f = (no_slash b w h).0 in
      let other : (47 == b) ≡ false = grind (arith, nat_tests, f) in
      rw other refl
  follow_row (b ∷ w) (x ∷ word) rest k rs h g =
      by (x == b) refl (follow_row w word rest k (step b rs) (no_slash b w h).1 (no_slash x word g).1)
    where
      by : (v : Bool) → (x == b) ≡ v → follow w ((word ++ 47 ∷ rest, k) ∷ step b rs) ≡ cond (bytes_eq w word) ((rest, k) ∷ follow w (step b rs)) (follow w (step b rs))
          → follow w (cond v ((word ++ 47 ∷ rest, k) ∷ step b rs) (step b rs)) ≡ cond (nat_eq b x && bytes_eq w word) ((rest, k) ∷ follow w (step b rs)) (follow w (step b rs))
      by true e ih = let same : nat_eq b x ≡ true = grind (arith, nat_tests) in rw same ih
      by false e ih = let other : nat_eq b x ≡ false = grind (arith, nat_tests) in rw other refl

  -- the last word
  pub word_last : (w : List ℕ) (k : K) (u : List ℕ) → list_all (λ x. ltb x 256) w ≡ true → seek 0 ((w, k) ∷ []) u ≡ cond (bytes_eq u w) (Some k) None
  unfolding seek
  word_last [] k [] h = refl
  word_last [] k (b ∷ u) h = seek_byte (([], k) ∷ []) b u refl refl ∙ seek_none 0 u
  word_last (x ∷ w) k [] h = refl
  word_last (x ∷ w) k (b ∷ u) h =
      let both = and_parts (ltb x 256) (list_all (λ x. ltb x 256) w) h in
      let small = both.0 in
      let one : (x == 256) ≡ false = grind (arith, nat_tests, small) in
      let two : (x == 257) ≡ false = grind (arith, nat_tests, small) in
      seek_byte ((x ∷ w, k) ∷ []) b u (rw one refl) (rw two refl) ∙ by (x == b) refl (word_last w k u both.1)
    where
      by : (v : Bool) → (x == b) ≡ v → seek 0 ((w, k) ∷ []) u ≡ cond (bytes_eq u w) (Some k) None
          → seek 0 (cond v ((w, k) ∷ []) []) u ≡ cond (nat_eq b x && bytes_eq u w) (Some k) None
      by true e ih = let same : nat_eq b x ≡ true = grind (arith, nat_tests) in rw same ih
      by false e ih = let other : nat_eq b x ≡ false = grind (arith, nat_tests) in rw other (seek_none 0 u)

  -- ---- names

  -- rows that begin with a name
  abbrev pub wild : RowsOf K → RowsOf K
  wild [] = []
  wild ((t, k) ∷ rs) = (256 ∷ t, k) ∷ wild rs

  -- the rows after a name: a slash and more, or the end
  abbrev pub past : RowsOf K → Option K → RowsOf K
  past [] None = []
  past [] (Some k) = ([], k) ∷ []
  past ((t, k) ∷ rs) end = (47 ∷ t, k) ∷ past rs end

  wild_is : (rs : RowsOf K) → step 256 (wild rs) ≡ rs
  wild_is [] = refl
  wild_is ((t, k) ∷ rs) = ap (λ (z : RowsOf K). (t, k) ∷ z) (wild_is rs)

  wild_not : (b : ℕ) (rs : RowsOf K) → (256 == b) ≡ false → step b (wild rs) ≡ []
  wild_not b [] n = refl
  wild_not b ((t, k) ∷ rs) n = rw n (wild_not b rs n)

  wild_own : (rs : RowsOf K) → own (wild rs) ≡ None
  wild_own [] = refl
  wild_own ((t, k) ∷ rs) = wild_own rs

  wild_seek : (rs : RowsOf K) (b : ℕ) (p : List ℕ) → (256 == b) ≡ false → seek 0 (wild rs) (b ∷ p) ≡ seek ((param_step rs (b ∷ p)).0 - 1) (param_step rs (b ∷ p)).1 p
  unfolding seek
  wild_seek rs b p n = rw (wild_not b rs n, seek_none 0 p, wild_is rs, wild_not 257 rs refl) (or_else_none (seek ((param_step rs (b ∷ p)).0 - 1) (param_step rs (b ∷ p)).1 p))

  past_own : (rs : RowsOf K) (end : Option K) → own (past rs end) ≡ end
  past_own [] None = refl
  past_own [] (Some k) = refl
  past_own ((t, k) ∷ rs) end = past_own rs end

  past_slash : (rs : RowsOf K) → step 47 (past rs None) ≡ rs
  past_slash [] = refl
  past_slash ((t, k) ∷ rs) = ap (λ (z : RowsOf K). (t, k) ∷ z) (past_slash rs)

  past_not : (w : ℕ) (rs : RowsOf K) → (47 == w) ≡ false → step w (past rs None) ≡ []
  past_not w [] n = refl
  past_not w ((t, k) ∷ rs) n = rw n (past_not w rs n)

  past_suffix : (rs : RowsOf K) (end : Option K) → with_suffix (47 ∷ []) (past rs end) ≡ past rs None
  past_suffix [] None = refl
  past_suffix [] (Some k) = refl
  past_suffix ((t, k) ∷ rs) end = ap (λ (z : RowsOf K). (47 ∷ t, k) ∷ z) (past_suffix rs end)

  none_longest : (seg : List ℕ) (rs : RowsOf K) (end : Option K) → cuts seg (47 ∷ []) ≡ false → longest_from seg [] (past rs end) ≡ []
  none_longest seg [] None n = refl
  none_longest seg [] (Some k) n = refl
  none_longest seg ((t, k) ∷ rs) end n = (λ i. longest_from seg (cond (n i) (47 ∷ []) []) (past rs end)) ∙ none_longest seg rs end n

  slash_longest : (seg : List ℕ) (rs : RowsOf K) (end : Option K) → longest_from seg (47 ∷ []) (past rs end) ≡ 47 ∷ []
  slash_longest seg [] None = refl
  slash_longest seg [] (Some k) = refl
  slash_longest seg ((t, k) ∷ rs) end = slash_longest seg rs end

  pub name_nothing : (rs : RowsOf K) → seek 0 (wild rs) [] ≡ None
  unfolding seek
  name_nothing rs = wild_own rs

  pub name_empty : (rs : RowsOf K) (end : Option K) (u : List ℕ) → seek 0 (wild (past rs end)) (47 ∷ u) ≡ None
  unfolding param_step
  name_empty rs end u = wild_seek (past rs end) 47 u refl ∙ (rw (none_longest (47 ∷ []) rs end refl) (seek_none 0 u))

  pub name_last : (rs : RowsOf K) (end : Option K) (b : ℕ) (x : List ℕ) → has_slash (b ∷ x) ≡ false → (256 == b) ≡ false → seek 0 (wild (past rs end)) (b ∷ x) ≡ end
  unfolding param_step
  name_last rs end b x h n =
      let none : longest_suffix (segment (b ∷ x)) (past rs end) ≡ [] = ap (λ seg. longest_from seg [] (past rs end)) (segment_last (b ∷ x) h) ∙ none_longest (b ∷ x) rs end (cuts_last b x h) in
      let one : suc (length x) - 1 ≡ length x = omega arith in
      wild_seek (past rs end) b x n ∙ (rw (none, h, one) (seek_all (past rs end) x ∙ past_own rs end))

  name_step : (t : List ℕ) (k : K) (rs : RowsOf K) (end : Option K) (b : ℕ) (x u : List ℕ) → has_slash (b ∷ x) ≡ false
      → param_step (past ((t, k) ∷ rs) end) (b ∷ x ++ 47 ∷ u) ≡ (suc (length x), past ((t, k) ∷ rs) None)
  unfolding param_step
  name_step t k rs end b x u h =
      let path = b ∷ x ++ 47 ∷ u in
      let seg = b ∷ x ++ 47 ∷ [] in
      let all = past ((t, k) ∷ rs) end in
      let is : segment path ≡ seg = segment_more (b ∷ x) u h in
      let found : longest_suffix seg all ≡ 47 ∷ [] = (λ i. longest_from seg (cond (cuts_more b x i) (47 ∷ []) []) (past rs end)) ∙ slash_longest seg rs end in
      let step_by = λ (s l : List ℕ). cond {A = ℕ × RowsOf K} (ltb 0 (length l)) (length s - length l, with_suffix l all) (cond (has_slash path) (0, []) (length path, all)) in
      let long : length (x ++ 47 ∷ []) ≡ suc (length x) = length-append x (47 ∷ []) ∙ add-one (length x) in
      let one : suc (suc (length x)) - 1 ≡ suc (length x) = omega arith in
      ap (λ s. step_by s (longest_suffix s all)) is ∙ ap (step_by seg) found
      ∙ (λ i. (suc (long i) - 1, past_suffix ((t, k) ∷ rs) end i)) ∙ ap (λ (m : ℕ). (m, past ((t, k) ∷ rs) None)) one

  pub name_more : (rs : RowsOf K) (end : Option K) (b : ℕ) (x u : List ℕ) → has_slash (b ∷ x) ≡ false → (256 == b) ≡ false
      → seek 0 (wild (past rs end)) (b ∷ x ++ 47 ∷ u) ≡ seek 0 rs u
  unfolding param_step
  name_more [] None b x u h n = wild_seek (past [] None) b (x ++ 47 ∷ u) n ∙ (rw (slash_more (b ∷ x) u) (seek_none 0 (x ++ 47 ∷ u))) ∙ sym (seek_none 0 u)
  name_more [] (Some k) b x u h n = wild_seek (past [] (Some k)) b (x ++ 47 ∷ u) n ∙ (rw (slash_more (b ∷ x) u) (seek_none 0 (x ++ 47 ∷ u))) ∙ sym (seek_none 0 u)
  name_more ((t, k) ∷ rs) end b x u h n =
      let all = past ((t, k) ∷ rs) end in
      let rest = past ((t, k) ∷ rs) None in
      let one : suc (length x) - 1 ≡ length x = omega arith in
      wild_seek all b (x ++ 47 ∷ u) n
      ∙ ap (λ (q : ℕ × RowsOf K). seek (q.0 - 1) q.1 (x ++ 47 ∷ u)) (name_step t k rs end b x u h)
      ∙ ap (λ (m : ℕ). seek m rest (x ++ 47 ∷ u)) one
      ∙ seek_past rest x (47 ∷ u)
      ∙ seek_byte rest 47 u (past_not 256 ((t, k) ∷ rs) refl) (past_not 257 ((t, k) ∷ rs) refl)
      ∙ ap (λ (z : RowsOf K). seek 0 z u) (past_slash ((t, k) ∷ rs))
