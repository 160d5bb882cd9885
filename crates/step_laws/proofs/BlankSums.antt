-- The blanks of a product, counted by batches and by lots. Each blank belongs to exactly one of
-- them.
use Rattle.std.proofs.Common.{◌≡◌, ◌+◌, ◌<◌, ◌&&◌, ℕ, suc, Bool, true, false, cond, List, [], ◌∷◌, get_or, length, map, All, Option, Some, None, inl, inr, refl, sym, ap, ◌∙◌, arith}
use Rattle.std.specs.Prelude.{AllPairs, bytes_eq, count_by, filter, find, nat_le, nat_lt, sum_by}
use Rattle.std.proofs.lemmas.Bool.{and_parts, both_ways, cases_Bool, false_from_ne_true, leb-true, ltb-true}
use Rattle.std.proofs.lemmas.List.{get_or-map, length-map}
use Rattle.std.proofs.lemmas.List.Elements.{All-head, All-tail, All-weaker}
use Rattle.std.proofs.lemmas.List.Sums.{sum_by-cons}
use Rattle.store_data.proofs.GroupLemmas.{bytes_eq-same, same-bytes_eq}
use Rattle.store_data.proofs.PieceLemmas.{sum_by-agree}
use Rattle.job_facts.specs.declared.facts.Lot.{Lot}
use Rattle.job_facts.specs.declared.facts.SessionState.{SessionState}
use Rattle.job_facts.specs.declared.facts.SessionState.TheVariants as session
use Rattle.job_facts.specs.Accounts.{blank_states, blank_totals, count_sessions, is_blank_of, is_lot_of, lots_of, session_states}
use Rattle.job_facts.specs.Facts.{Batch, Facts, Session}
use Rattle.job_facts.specs.Sound.{AreApart, AreNamedOnce, IsSession, IsSound}
use Rattle.job_facts.specs.States.{is_in, lot_of, same_session_state, session_state}
use Rattle.step_laws.specs.Sums.{AreBlankSums, batches_of, discarded_in, sessions_by_batch}
use Rattle.step_laws.proofs.GoodCards.{count_among}

abbrev pub one : Bool → ℕ
one b = cond {A = ℕ} b 1 0

-- ---- at most one key fits

-- An element was found and passes.
abbrev passes : {K : Type 0} → (K → Bool) → Option K → Bool
passes p None = false
passes p (Some k) = p k

module _ {K : Type 0} (fits p : K → Bool) where
  fits_none : (ks : List K) → All (λ k. fits k ≡ false) ks → count_by fits (filter p ks) ≡ 0
  fits_none [] none = refl
  fits_none (k ∷ ks) none =
      let rest = fits_none ks (All-tail (λ k. fits k ≡ false) k ks none) in
      let here : one (fits k) ≡ 0 = ap one (All-head (λ k. fits k ≡ false) k ks none) in
      elim (cases_Bool (p k)) [
        | inl in_p ↦ ap (λ b. count_by fits (cond b (k ∷ filter p ks) (filter p ks))) in_p ∙ omega (arith, sum_by-cons (λ j. one (fits j)) k (filter p ks), here, rest)
        | inr not_p ↦ ap (λ b. count_by fits (cond b (k ∷ filter p ks) (filter p ks))) not_p ∙ rest
      ]

  -- If at most one key fits, it is the key that is found.
  fits_found : (ks : List K) → AllPairs (λ j k. fits j ≡ true → fits k ≡ false) ks → count_by fits (filter p ks) ≡ one (passes p (find fits ks))
  fits_found [] once = refl
  fits_found (k ∷ ks) once =
      let sum = sum_by-cons (λ j. one (fits j)) k (filter p ks) in
      elim (cases_Bool (fits k)) [
        | inl hit ↦
            let none = fits_none ks (λ i d within. once 0 (suc i) d (omega arith) (omega arith) hit) in
            let here : one (fits k) ≡ 1 = ap one hit in
            let found : one (passes p (cond (fits k) (Some k) (find fits ks))) ≡ one (p k) = ap (λ b. one (passes p (cond b (Some k) (find fits ks)))) hit in
            elim (cases_Bool (p k)) [
              | inl in_p ↦ ap (λ b. count_by fits (cond b (k ∷ filter p ks) (filter p ks))) in_p ∙ omega (arith, sum, here, none) ∙ sym (found ∙ ap one in_p)
              | inr not_p ↦ ap (λ b. count_by fits (cond b (k ∷ filter p ks) (filter p ks))) not_p ∙ none ∙ sym (found ∙ ap one not_p)
            ]
        | inr miss ↦
            let rest = fits_found ks (λ i j d before within. once (suc i) (suc j) d (omega arith) (omega arith)) in
            let here : one (fits k) ≡ 0 = ap one miss in
            let found : one (passes p (cond (fits k) (Some k) (find fits ks))) ≡ one (passes p (find fits ks)) = ap (λ b. one (passes p (cond b (Some k) (find fits ks)))) miss in
            elim (cases_Bool (p k)) [
              | inl in_p ↦ ap (λ b. count_by fits (cond b (k ∷ filter p ks) (filter p ks))) in_p ∙ omega (arith, sum, here, rest) ∙ sym found
              | inr not_p ↦ ap (λ b. count_by fits (cond b (k ∷ filter p ks) (filter p ks))) not_p ∙ rest ∙ sym found
            ]
      ]

-- ---- items counted by key

sum_by_both : {K : Type 0} (g h : K → ℕ) (ks : List K) → sum_by (λ k. g k + h k) ks ≡ sum_by g ks + sum_by h ks
sum_by_both g h [] = refl
sum_by_both g h (k ∷ ks) = omega (arith, sum_by-cons (λ k. g k + h k) k ks, sum_by-cons g k ks, sum_by-cons h k ks, sum_by_both g h ks)

pub sum_by_nothing : {K : Type 0} (ks : List K) → sum_by (λ (k : K). 0) ks ≡ 0
sum_by_nothing [] = refl
sum_by_nothing {K = K} (k ∷ ks) = omega (arith, sum_by-cons (λ (k : K). 0) k ks, sum_by_nothing ks)

module _ {X K : Type 0} (fits : X → K → Bool) (p : X → Bool) (ks : List K) where
  -- An item that passes fits exactly one key, and any other item fits none.
  abbrev pub IsOneKeys : X → Type 0
  IsOneKeys x = count_by (fits x) ks ≡ one (p x)

  pub by_keys : (xs : List X) → All IsOneKeys xs → count_by p xs ≡ sum_by (λ k. count_by (λ x. fits x k) xs) ks
  by_keys [] each = sym (sum_by_nothing ks)
  by_keys (x ∷ xs) each =
      let here = All-head IsOneKeys x xs each in
      let rest = by_keys xs (All-tail IsOneKeys x xs each) in
      let split = sum_by-agree (λ k. count_by (λ y. fits y k) (x ∷ xs)) (λ k. one (fits x k) + count_by (λ y. fits y k) xs) (λ k. sum_by-cons (λ y. one (fits y k)) x xs) ks in
      let both = sum_by_both (λ k. one (fits x k)) (λ k. count_by (λ y. fits y k) xs) ks in
      omega (arith, sum_by-cons (λ y. one (p y)) x xs, here, rest, split, both)

and_true : (a b : Bool) → b ≡ true → one (a && b) ≡ one a
and_true true b hit = ap one hit
and_true false b hit = refl

and_false : (a b : Bool) → b ≡ false → one (a && b) ≡ 0
and_false true b miss = ap one miss
and_false false b miss = refl

-- an additional test that doesn't depend on the key
pub count_beside : {K : Type 0} (fits : K → Bool) (p q : Bool) (ks : List K) → count_by fits ks ≡ one p → count_by (λ k. fits k && q) ks ≡ one (p && q)
count_beside fits p q ks is = elim (cases_Bool q) [
  | inl hit ↦ sum_by-agree (λ k. one (fits k && q)) (λ k. one (fits k)) (λ k. and_true (fits k) q hit) ks ∙ is ∙ sym (and_true p q hit)
  | inr miss ↦ sum_by-agree (λ k. one (fits k && q)) (λ k. 0) (λ k. and_false (fits k) q miss) ks ∙ sum_by_nothing ks ∙ sym (and_false p q miss)
]

-- ---- batches by name, and lots by range

pub bytes_eq_either : (m n : List ℕ) → bytes_eq m n ≡ bytes_eq n m
bytes_eq_either m n = elim (cases_Bool (bytes_eq n m)) [
  | inl same ↦ ap (λ k. bytes_eq m k) (same-bytes_eq n m same) ∙ bytes_eq-same m ∙ sym same
  | inr differ ↦
      let miss = false_from_ne_true (bytes_eq m n) (λ same. both_ways (bytes_eq n m) differ (ap (bytes_eq n) (same-bytes_eq m n same) ∙ bytes_eq-same n)) in
      miss ∙ sym differ
]

-- At most one item has the name.
pub named_once : {X : Type 0} (key : X → List ℕ) (xs : List X) (n : List ℕ) → AreNamedOnce (map key xs)
    → AllPairs (λ (x y : X). bytes_eq (key x) n ≡ true → bytes_eq (key y) n ≡ false) xs
named_once {X = X} key xs n once i j d before within hit =
    let there : j < length (map key xs) = omega (arith, length-map xs key) in
    let apart = once i j (key d) before there in
    let x : X = get_or xs i d in
    let y : X = get_or xs j d in
    let differ : bytes_eq (key x) (key y) ≡ false =
    ap (λ m. bytes_eq m (key y)) (sym (get_or-map key xs i d (key d) (omega arith)))
    ∙ ap (bytes_eq (get_or (map key xs) i (key d))) (sym (get_or-map key xs j d (key d) within)) ∙ apart in
    bytes_eq_either (key y) n ∙ ap (λ m. bytes_eq m (key y)) (sym (same-bytes_eq (key x) n hit)) ∙ differ

pub apart_once : (blank : ℕ) (l m : Lot) → AreApart l m → is_in blank l ≡ true → is_in blank m ≡ false
apart_once blank l m apart inside = false_from_ne_true (is_in blank m) (λ also.
    let here = and_parts (nat_le l.first blank) (nat_lt blank (l.first + l.count)) inside in
    let there = and_parts (nat_le m.first blank) (nat_lt blank (m.first + m.count)) also in
    let least = leb-true l.first blank here.0 in
    let most = ltb-true blank (l.first + l.count) here.1 in
    let least_there = leb-true m.first blank there.0 in
    let most_there = ltb-true blank (m.first + m.count) there.1 in
    elim apart [ inl before ↦ omega (arith, before, most, least_there) | inr after ↦ omega (arith, after, least, most_there) ])

module _ (f : Facts) (p : List ℕ) (sound : IsSound f) where
  -- A session belongs to a batch of the product, or its blank has another product.
  one_batch : (x : Session) → IsSession f x → count_by (λ (b : Batch). bytes_eq x.batch b.name) (batches_of f p) ≡ one (is_blank_of f p x.blank)
  one_batch x is =
      let fits : Batch → Bool = λ b. bytes_eq b.name x.batch in
      let of_product : Batch → Bool = λ b. bytes_eq b.product p in
      let turned : count_by (λ (b : Batch). bytes_eq x.batch b.name) (batches_of f p) ≡ count_by fits (batches_of f p) =
      sum_by-agree (λ (b : Batch). one (bytes_eq x.batch b.name)) (λ (b : Batch). one (fits b)) (λ b. ap one (bytes_eq_either x.batch b.name)) (batches_of f p) in
      let once = named_once (λ (b : Batch). b.name) f.batches x.batch sound.named.batches.once in
      turned ∙ fits_found fits of_product f.batches once ∙ ap (λ o. one (passes of_product o)) is.batch_is
      ∙ ap (λ c. one (bytes_eq c p)) (sym is.product) ∙ sym (ap (λ o. one (is_lot_of p o)) is.lot_is)

  pub blanks_by_batch : (state : SessionState) → count_sessions (blank_states f p) state ≡ sessions_by_batch f p state
  unfolding blank_states session_states
  blanks_by_batch state =
      let q : SessionState → Bool = same_session_state state in
      let stands : Session → Bool = λ x. q (session_state f x) in
      let of_product : Session → Bool = λ x. is_blank_of f p x.blank in
      let fits : Session → Batch → Bool = λ x b. bytes_eq x.batch b.name && stands x in
      let each : All (IsOneKeys fits (λ x. of_product x && stands x) (batches_of f p)) f.sessions =
      All-weaker (IsSession f) (IsOneKeys fits (λ x. of_product x && stands x) (batches_of f p))
      (λ x is. count_beside (λ (b : Batch). bytes_eq x.batch b.name) (of_product x) (stands x) (batches_of f p) (one_batch x is)) f.sessions sound.sessions.each in
      count_among q (session_state f) of_product f.sessions
      ∙ by_keys fits (λ x. of_product x && stands x) (batches_of f p) f.sessions each
      ∙ sum_by-agree (λ (b : Batch). count_by (λ x. fits x b) f.sessions) (λ (b : Batch). count_sessions (session_states f b.name) state) (λ b. sym (count_among q (session_state f) (λ (x : Session). bytes_eq x.batch b.name) f.sessions)) (batches_of f p)

  -- A blank is in a lot of the product, or it has another product.
  one_lot : (blank : ℕ) → count_by (is_in blank) (lots_of f p) ≡ one (is_blank_of f p blank)
  one_lot blank =
      let of_product : Lot → Bool = λ l. bytes_eq l.product p in
      let once : AllPairs (λ (l m : Lot). is_in blank l ≡ true → is_in blank m ≡ false) f.lots =
      λ i j d before within. apart_once blank (get_or f.lots i d) (get_or f.lots j d) (sound.named.lots.apart i j d before within) in
      fits_found (is_in blank) of_product f.lots once ∙ by_lot (lot_of f.lots blank)
    where
      by_lot : (o : Option Lot) → one (passes (λ (l : Lot). bytes_eq l.product p) o) ≡ one (is_lot_of p o)
      by_lot None = refl
      by_lot (Some l) = refl

  pub discarded_by_lot : count_by (is_blank_of f p) f.discarded ≡ sum_by (discarded_in f) (lots_of f p)
  discarded_by_lot = by_keys is_in (is_blank_of f p) (lots_of f p) f.discarded (λ i d within. one_lot _)

  pub blank_sums : AreBlankSums f p
  unfolding blank_totals
  blank_sums = record {
    good = blanks_by_batch session.Good;
    running = blanks_by_batch session.Running;
    spoiled = blanks_by_batch session.Spoiled;
    discarded = discarded_by_lot;
  }
