-- Lemmas: the sums of a product's charged blanks are its account by the facts.
use Rattle.std.proofs.Common.{◌≡◌, ◌≢◌, ◌==◌, ◌&&◌, ◌+◌, ◌≤◌, ℕ, Bool, true, false, cond, List, [], ◌∷◌, ◌++◌, All, Some, get_or, length, map, inl, inr, refl, sym, ap, ◌∙◌, subst, arith, IsPermutation}
use Rattle.std.specs.Prelude.{AllPairs, count_by, filter, find, option_map, slice_get, sum_by}
use Rattle.std.specs.List.{position_or_len}
use Rattle.std.proofs.Math.Bool.{and-false, and-true}
use Rattle.std.proofs.lemmas.Bool.{cases_Bool, cond-false, cond-true}
use Rattle.std.proofs.lemmas.Bool.Decides.{nat_tests}
use Rattle.std.proofs.lemmas.List.{get_or_append_left, length-append}
use Rattle.std.proofs.lemmas.List.Kept.{AllPairs-filter}
use Rattle.std.proofs.lemmas.List.Sorted.{IsPermutation-map, IsPermutation-refl, length_permutation, sum_by-IsPermutation}
use Rattle.std.proofs.lemmas.List.Sums.{length-filter, sum_by-append, sum_by-cons}
use Rattle.store_data.proofs.PieceLemmas.{sum_by-map}
use Rattle.job_facts.specs.declared.facts.SessionState.{SessionState}
use Rattle.job_facts.specs.declared.facts.SessionState.TheVariants as session
use Rattle.job_facts.specs.declared.rows.BlankTotals.{BlankTotals}
use Rattle.job_facts.specs.Accounts.{blank_states, blank_totals, count_sessions, is_blank_of, is_lot_of}
use Rattle.job_facts.specs.Contents.{Contents}
use Rattle.job_facts.specs.Facts.{Facts, Session}
use Rattle.job_facts.specs.Sound.{IsSound}
use Rattle.job_facts.specs.States.{lot_of, same_session_state, session_state}
use Rattle.step_laws.proofs.BlankSums.{one, sum_by_nothing}
use Rattle.step_laws.proofs.GoodCards.{count_among}
use Rattle.step_laws.proofs.Permuted.{IsPermutation-filter, at_most_one, count_moved, find_moved}
use Rattle.table_rows.proofs.Found.{filter_alike}
use Rattle.table_rows.specs.Keys.{is_lot_for}
use Rattle.table_rows.specs.Tables.{HaveSameRows, StoredBlank, StoredLot, StoredSession, Tables}
use Rattle.image_laws.specs.Image.{image, sessions_by_id, stored_blank, stored_blanks, stored_lots, stored_session, stored_sessions}
use Rattle.image_laws.proofs.Places.{found_alone, once_of}
use Rattle.row_laws.proofs.BlankRows.{lots_are}
use Rattle.row_laws.proofs.Finding.{AllPairs-from_map, AllPairs-map, AllPairs-numbered, find-map, found_numbered, option_map-map}
use Rattle.row_laws.proofs.TotalRows.{blanks_in_rows}
use Rattle.audit_laws.specs.Audited.{IsAudited}
use Rattle.audit_laws.proofs.AuditedMoved.{lot_alike}
use Rattle.audit_laws.proofs.SoundLists.{equal}
use Rattle.audit_order.specs.Order.{lots_of}
use Rattle.book_lines.specs.Blanks.{Charge, IsAccount, blanks_for, charge_of, charges_of, count_in_state, is_in_state, is_of, same_state, session_on, share_for, stands_by, stands_on, totals_by}
use Rattle.book_lines.specs.declared.blank_state.BlankState.{BlankState}
use Rattle.book_lines.specs.declared.blank_state.BlankState.TheVariants as blank

-- ---- counts and sums of filtered lists

module _ {X : Type 0} (p q : X → Bool) where
  -- predicates that agree on every element give the same count
  counted_alike : (xs : List X) → All (λ x. p x ≡ q x) xs → count_by p xs ≡ count_by q xs
  counted_alike xs alike = sym (length-filter p xs) ∙ ap length (filter_alike p q xs alike) ∙ length-filter q xs

module _ {X : Type 0} (p : X → Bool) (g : X → ℕ) where
  -- the sum over the elements that satisfy `p`
  summed : (xs : List X) → sum_by (λ x. cond (p x) (g x) 0) xs ≡ sum_by g (filter p xs)
  summed [] = refl
  summed (x ∷ xs) =
      let rest : sum_by (λ y. cond (p y) (g y) 0) xs ≡ sum_by g (filter p xs) = summed xs in
      let sum = sum_by-cons (λ y. cond (p y) (g y) 0) x xs in
      elim (cases_Bool (p x)) [
        | inl hit ↦
            let here : cond (p x) (g x) 0 ≡ g x = cond-true (p x) (g x) 0 hit in
            sym (ap (λ b. sum_by g (cond b (x ∷ filter p xs) (filter p xs))) hit ∙ omega (arith, sum_by-cons g x (filter p xs), sum, here, rest))
        | inr miss ↦
            let here : cond (p x) (g x) 0 ≡ 0 = cond-false (p x) (g x) 0 miss in
            sym (ap (λ b. sum_by g (cond b (x ∷ filter p xs) (filter p xs))) miss ∙ omega (arith, sum, here, rest))
      ]

  first_is_found : (xs : List X) → slice_get (filter p xs) 0 ≡ find p xs
  first_is_found [] = refl
  first_is_found (x ∷ xs) = elim (cases_Bool (p x)) [ inl hit ↦ rw hit refl | inr miss ↦ rw miss (first_is_found xs) ]

-- ---- each charged blank is in exactly one state

one_state : (state : BlankState) → one (same_state blank.Good state) + one (same_state blank.Running state) + one (same_state blank.Spoiled state) + one (same_state blank.Discarded state) ≡ 1
one_state blank.Running = refl
one_state blank.Good = refl
one_state blank.Spoiled = refl
one_state blank.Discarded = refl

abbrev standing : BlankState → List Charge → ℕ
standing state charges = count_by (is_in_state state) charges

all_stand : (charges : List Charge) → length charges ≡ standing blank.Good charges + standing blank.Running charges + standing blank.Spoiled charges + standing blank.Discarded charges
all_stand [] = refl
all_stand (c ∷ charges) =
    let step : (state : BlankState) → standing state (c ∷ charges) ≡ one (is_in_state state c) + standing state charges = λ state. sum_by-cons (λ d. one (is_in_state state d)) c charges in
    omega (arith, all_stand charges, one_state (stands_on c.on), step blank.Good, step blank.Running, step blank.Spoiled, step blank.Discarded)

-- ---- facts

module _ (t : Tables) (c : Contents) (audited : IsAudited t) (sound : IsSound c.facts) (same : HaveSameRows t (image c)) (p : List ℕ) where
  abbrev f : Facts
  f = c.facts

  lots_same : IsPermutation (lots_of t.lots) f.lots
  lots_same = subst (IsPermutation (lots_of t.lots)) (lots_are f) (IsPermutation-map (λ (l : StoredLot). l.lot) t.lots (stored_lots f) same.lots)

  is_same : (n : ℕ) → is_lot_of p (lot_of (lots_of t.lots) n) ≡ is_blank_of f p n
  is_same n = ap (is_lot_of p) (lot_alike t.products t.products (IsPermutation-refl t.products) audited.products (lots_of t.lots) f.lots lots_same audited.lots n)

  -- ---- the session on a blank

  abbrev is_on : ℕ → StoredSession → Bool
  is_on n s = s.serial == n

  abbrev charges_it : ℕ → Session → Bool
  charges_it n s = s.blank == n

  charged_once : (n : ℕ) → AllPairs (λ (s u : Session). charges_it n s ≡ true → charges_it n u ≡ false) f.sessions
  charged_once n =
      let opened : List ℕ = map (λ (s : Session). s.blank) f.sessions in
      let apart : AllPairs (λ (a b : ℕ). a ≢ b) opened = λ i j d before within.
      let low : get_or (opened ++ f.discarded) i d ≡ get_or opened i d = get_or_append_left opened f.discarded d i (omega (arith, before, within)) in
      let high : get_or (opened ++ f.discarded) j d ≡ get_or opened j d = get_or_append_left opened f.discarded d j within in
      let there = sound.sessions.charged_once i j d before (omega (arith, within, length-append opened f.discarded)) in
      λ equals. there (low ∙ equals ∙ sym high) in
      let each = AllPairs-from_map (λ (a b : ℕ). a ≢ b) (λ (s : Session). s.blank) f.sessions apart in
      λ i j d before within hit. let differ = each i j d before within in grind (arith, nat_tests)

  sessions_once : (n : ℕ) → AllPairs (λ (s u : StoredSession). is_on n s ≡ true → is_on n u ≡ false) (stored_sessions f)
  unfolding stored_sessions
  sessions_once n =
      AllPairs-map (λ (s u : StoredSession). is_on n s ≡ true → is_on n u ≡ false) (stored_session f) (sessions_by_id f)
      (AllPairs-numbered (λ (s u : Session). charges_it n s ≡ true → charges_it n u ≡ false) 1 f.sessions (charged_once n))

  few_on : (n : ℕ) → count_by (is_on n) t.sessions ≤ 1
  few_on n = omega (arith, count_moved (is_on n) t.sessions (stored_sessions f) same.sessions, at_most_one (is_on n) (stored_sessions f) (sessions_once n))

  abbrev row_with : ℕ → Session → StoredSession
  row_with n s = stored_session f (1 + position_or_len (charges_it n) f.sessions, s)

  found_on : (n : ℕ) → session_on t.sessions n ≡ option_map (row_with n) (find (charges_it n) f.sessions)
  unfolding stored_sessions
  found_on n =
      first_is_found (is_on n) (λ s. 0) t.sessions ∙ find_moved (is_on n) t.sessions (stored_sessions f) same.sessions (few_on n) ∙ find-map (is_on n) (stored_session f) (sessions_by_id f)
      ∙ ap (option_map (stored_session f)) (found_numbered (charges_it n) 1 f.sessions)
      ∙ option_map-map (stored_session f) (λ (s : Session). (1 + position_or_len (charges_it n) f.sessions, s)) (find (charges_it n) f.sessions)

  state_on : All (λ (s : Session). stands_on (session_on t.sessions s.blank) ≡ stands_by (session_state f s)) f.sessions
  state_on k d within =
      let s : Session = get_or f.sessions k d in
      let n : ℕ = s.blank in
      let found : find (charges_it n) f.sessions ≡ Some s = found_alone (charges_it n) f.sessions (once_of (charges_it n) f.sessions (charged_once n)) k d within (equal n n refl) in
      ap stands_on (found_on n ∙ ap (option_map (row_with n)) found)

  -- ---- counts

  abbrev opened_row : Session → StoredBlank
  opened_row s = stored_blank f false s.blank

  abbrev is_counted : BlankState → StoredBlank → Bool
  is_counted state b = is_of t p b && is_in_state state (charge_of t b)

  abbrev opened_in : BlankState → Session → Bool
  opened_in state s = is_blank_of f p s.blank && same_state state (stands_by (session_state f s))

  abbrev discarded_in : BlankState → ℕ → Bool
  discarded_in state n = is_blank_of f p n && same_state state blank.Discarded

  counts : (state : BlankState) → count_in_state state (charges_of t p) ≡ count_by (opened_in state) f.sessions + count_by (discarded_in state) f.discarded
  unfolding stored_blanks
  counts state =
      let all : count_in_state state (charges_of t p) ≡ count_by (is_counted state) t.blanks =
      length-filter (is_in_state state) (charges_of t p) ∙ count_among (is_in_state state) (charge_of t) (is_of t p) t.blanks in
      let moved : count_by (is_counted state) t.blanks ≡ count_by (is_counted state) (map opened_row f.sessions ++ map (stored_blank f true) f.discarded) =
      count_moved (is_counted state) t.blanks (stored_blanks f) same.blanks in
      let parts = sum_by-append (λ b. one (is_counted state b)) (map opened_row f.sessions) (map (stored_blank f true) f.discarded) in
      let opened : count_by (is_counted state) (map opened_row f.sessions) ≡ count_by (opened_in state) f.sessions =
      sum_by-map (λ b. one (is_counted state b)) opened_row f.sessions
      ∙ counted_alike (λ s. is_counted state (opened_row s)) (opened_in state) f.sessions (λ k d within.
      let s : Session = get_or f.sessions k d in
      ap (λ b. b && same_state state (stands_on (session_on t.sessions s.blank))) (is_same s.blank)
      ∙ ap (λ stands. is_blank_of f p s.blank && same_state state stands) (state_on k d within)) in
      let out : count_by (is_counted state) (map (stored_blank f true) f.discarded) ≡ count_by (discarded_in state) f.discarded =
      sum_by-map (λ b. one (is_counted state b)) (stored_blank f true) f.discarded
      ∙ counted_alike (λ n. is_counted state (stored_blank f true n)) (discarded_in state) f.discarded
      (λ k d within. ap (λ b. b && same_state state blank.Discarded) (is_same (get_or f.discarded k d))) in
      omega (arith, all, moved, parts, opened, out)

  none_counted : {X : Type 0} (q : X → Bool) (xs : List X) → All (λ x. q x ≡ false) xs → count_by q xs ≡ 0
  none_counted {X} q xs none = counted_alike q (λ (x : X). false) xs none ∙ sum_by_nothing xs

  -- the count for a state that a session can have
  session_count : (state : BlankState) (its : SessionState) → ((s : SessionState) → same_state state (stands_by s) ≡ same_session_state its s)
      → same_state state blank.Discarded ≡ false → count_in_state state (charges_of t p) ≡ count_sessions (blank_states f p) its
  unfolding blank_states
  session_count state its alike other =
      let out : count_by (discarded_in state) f.discarded ≡ 0 =
      none_counted (discarded_in state) f.discarded (λ k d within. ap (λ b. is_blank_of f p (get_or f.discarded k d) && b) other ∙ and-false (is_blank_of f p (get_or f.discarded k d))) in
      let opened : count_by (opened_in state) f.sessions ≡ count_by (λ (s : Session). is_blank_of f p s.blank && same_session_state its (session_state f s)) f.sessions =
      counted_alike (opened_in state) (λ (s : Session). is_blank_of f p s.blank && same_session_state its (session_state f s)) f.sessions
      (λ k d within. ap (λ b. is_blank_of f p (get_or f.sessions k d).blank && b) (alike (session_state f (get_or f.sessions k d)))) in
      let kept : count_sessions (blank_states f p) its ≡ count_by (λ (s : Session). is_blank_of f p s.blank && same_session_state its (session_state f s)) f.sessions =
      count_among (same_session_state its) (session_state f) (λ (s : Session). is_blank_of f p s.blank) f.sessions in
      omega (arith, counts state, out, opened, kept)

  not_discarded : (s : SessionState) → same_state blank.Discarded (stands_by s) ≡ false
  not_discarded session.Running = refl
  not_discarded session.Good = refl
  not_discarded session.Spoiled = refl

  discarded_count : count_in_state blank.Discarded (charges_of t p) ≡ count_by (is_blank_of f p) f.discarded
  discarded_count =
      let opened : count_by (opened_in blank.Discarded) f.sessions ≡ 0 =
      none_counted (opened_in blank.Discarded) f.sessions (λ k d within.
      let s : Session = get_or f.sessions k d in
      ap (λ b. is_blank_of f p s.blank && b) (not_discarded (session_state f s)) ∙ and-false (is_blank_of f p s.blank)) in
      let out : count_by (discarded_in blank.Discarded) f.discarded ≡ count_by (is_blank_of f p) f.discarded =
      counted_alike (discarded_in blank.Discarded) (is_blank_of f p) f.discarded (λ k d within. and-true (is_blank_of f p (get_or f.discarded k d))) in
      omega (arith, counts blank.Discarded, opened, out)

  same_good : (s : SessionState) → same_state blank.Good (stands_by s) ≡ same_session_state session.Good s
  same_good session.Running = refl
  same_good session.Good = refl
  same_good session.Spoiled = refl

  same_running : (s : SessionState) → same_state blank.Running (stands_by s) ≡ same_session_state session.Running s
  same_running session.Running = refl
  same_running session.Good = refl
  same_running session.Spoiled = refl

  same_spoiled : (s : SessionState) → same_state blank.Spoiled (stands_by s) ≡ same_session_state session.Spoiled s
  same_spoiled session.Running = refl
  same_spoiled session.Good = refl
  same_spoiled session.Spoiled = refl

  -- ---- account

  abbrev count_of : StoredLot → ℕ
  count_of l = l.lot.count

  lots_many : length (filter (is_lot_for p) t.lots) ≡ (blank_totals f p).lots
  lots_many =
      let moved = length_permutation (filter (is_lot_for p) t.lots) (filter (is_lot_for p) (stored_lots f)) (IsPermutation-filter (is_lot_for p) t.lots (stored_lots f) same.lots) in
      let whole : (blank_totals f p).lots ≡ length (filter (is_lot_for p) (stored_lots f)) = ap (λ (b : BlankTotals). b.lots) (blanks_in_rows f sound p) in
      omega (arith, moved, whole)

  serials_many : blanks_for p t.lots ≡ (blank_totals f p).total
  serials_many =
      let moved = sum_by-IsPermutation (share_for p) t.lots (stored_lots f) same.lots in
      let kept : sum_by (share_for p) (stored_lots f) ≡ sum_by count_of (filter (is_lot_for p) (stored_lots f)) = summed (is_lot_for p) count_of (stored_lots f) in
      let whole : (blank_totals f p).total ≡ sum_by count_of (filter (is_lot_for p) (stored_lots f)) = ap (λ (b : BlankTotals). b.total) (blanks_in_rows f sound p) in
      omega (arith, moved, kept, whole)

  good_many : count_in_state blank.Good (charges_of t p) ≡ (blank_totals f p).good
  unfolding blank_totals
  good_many = session_count blank.Good session.Good same_good refl

  running_many : count_in_state blank.Running (charges_of t p) ≡ (blank_totals f p).running
  unfolding blank_totals
  running_many = session_count blank.Running session.Running same_running refl

  spoiled_many : count_in_state blank.Spoiled (charges_of t p) ≡ (blank_totals f p).spoiled
  unfolding blank_totals
  spoiled_many = session_count blank.Spoiled session.Spoiled same_spoiled refl

  discarded_many : count_in_state blank.Discarded (charges_of t p) ≡ (blank_totals f p).discarded
  unfolding blank_totals
  discarded_many = discarded_count

  sums_are : totals_by p t.lots (charges_of t p) ≡ blank_totals f p
  sums_are =
      let lots = lots_many in
      let total = serials_many in
      let good = good_many in
      let running = running_many in
      let spoiled = spoiled_many in
      let discarded = discarded_many in
      λ i. record { lots = lots i; total = total i; good = good i; running = running i; spoiled = spoiled i; discarded = discarded i }

  charged_many : length (charges_of t p) ≡ (blank_totals f p).good + (blank_totals f p).running + (blank_totals f p).spoiled + (blank_totals f p).discarded
  charged_many =
      let by : (state : BlankState) → count_in_state state (charges_of t p) ≡ standing state (charges_of t p) = λ state. length-filter (is_in_state state) (charges_of t p) in
      omega (arith, all_stand (charges_of t p), by blank.Good, by blank.Running, by blank.Spoiled, by blank.Discarded, good_many, running_many, spoiled_many, discarded_many)

  once : AllPairs (λ (a b : Charge). a.blank.serial ≢ b.blank.serial) (charges_of t p)
  once =
      AllPairs-map (λ (a b : Charge). a.blank.serial ≢ b.blank.serial) (charge_of t) (filter (is_of t p) t.blanks)
      (AllPairs-filter (λ (a b : StoredBlank). a.serial ≢ b.serial) (is_of t p) t.blanks audited.blanks_once)

  pub account_is : IsAccount t p (blank_totals f p)
  account_is = record { sums = sums_are; charged = charged_many; once = once }
