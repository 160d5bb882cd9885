-- Good sessions: they stay good, all of their status words let the session continue, and a record
-- or a blank has at most one.
use Rattle.std.proofs.Common.{◌≡◌, ◌≤◌, ◌<◌, ◌+◌, ◌==◌, ◌&&◌, ◌||◌, ℕ, zero, suc, Bool, true, false, cond, List, [], ◌∷◌, length, length-append, get_or, map, Some, refl, sym, ap, ◌∙◌, subst, inl, inr, arith}
use Rattle.std.specs.Prelude.{bytes_eq, count_by, filter, nat_lt, option_map, slice_get, IsTrue}
use Rattle.std.specs.List.{list_any}
use Rattle.std.proofs.lemmas.Bool.{and_from, cases_Bool, cases_lt, eqb-false, eqb-true, false≢true, or_cases, or_left, or_right}
use Rattle.std.proofs.lemmas.List.{length-map}
use Rattle.std.proofs.lemmas.List.Sums.{sum_by-cons}
use Rattle.std.proofs.lemmas.Option.{get_or_from_slice_get, none-some, same_Some, slice_get-map, slice_get_within}
use Rattle.store_data.specs.Sequence.{Command}
use Rattle.store_data.proofs.GroupLemmas.{bytes_eq-same}
use Rattle.job_facts.specs.declared.facts.RecordState.TheVariants as rec
use Rattle.job_facts.specs.declared.facts.SessionState.{SessionState}
use Rattle.job_facts.specs.declared.facts.SessionState.TheVariants as session
use Rattle.job_facts.specs.Facts.{Facts, Session}
use Rattle.job_facts.specs.Sound.{AreWords, IsSound, charges, has_card}
use Rattle.job_facts.specs.States.{commands_for, goes_at, is_good, is_running, is_spoiled, is_withdrawn, last_stops, record_state, remakes_of, session_numbered, session_state, states_of}
use Rattle.job_facts.proofs.Lists.{slice_get-append_left}
use Rattle.job_facts.proofs.SessionLemmas.{last_goes}
use Rattle.job_facts.proofs.SoundFacts.{is_for}
use Rattle.job_facts.proofs.SoundSessions.{running_parts}
use Rattle.step_laws.specs.Later.{Later}
use Rattle.step_laws.specs.Records.{WordsGo}
use Rattle.step_laws.proofs.Numbered.{session_sound}

-- ---- elements that a filter keeps and a map changes

module _ {X Y : Type 0} (q : Y → Bool) (h : X → Y) (p : X → Bool) where
  abbrev among : List X → List Y
  among xs = map h (filter p xs)

  any_at : (xs : List X) → list_any q (among xs) ≡ true → (i : ℕ) × (x : X) × (slice_get xs i ≡ Some x) × (p x ≡ true) × (q (h x) ≡ true)
  any_at [] some = absurd (false≢true some)
  any_at (x ∷ xs) some = elim (cases_Bool (p x)) [
    | inl hit ↦ elim (or_cases (q (h x)) (list_any q (among xs)) (sym (ap (λ b. list_any q (map h (cond b (x ∷ filter p xs) (filter p xs)))) hit) ∙ some)) [
      | inl now ↦ (0, x, refl, hit, now)
      | inr later ↦ let at = any_at xs later in (suc at.0, at.1, at.2, at.3, at.4)
    ]
    | inr miss ↦
        let at = any_at xs (sym (ap (λ b. list_any q (map h (cond b (x ∷ filter p xs) (filter p xs)))) miss) ∙ some) in
        (suc at.0, at.1, at.2, at.3, at.4)
  ]

  any_there : (xs : List X) (i : ℕ) (x : X) → slice_get xs i ≡ Some x → p x ≡ true → q (h x) ≡ true → list_any q (among xs) ≡ true
  any_there [] i x there hit passes = absurd (none-some x there)
  any_there (z ∷ xs) zero x there hit passes =
      let same : z ≡ x = same_Some z x there in
      ap (λ b. list_any q (map h (cond b (z ∷ filter p xs) (filter p xs)))) (ap p same ∙ hit) ∙ or_left (q (h z)) (list_any q (among xs)) (ap (λ w. q (h w)) same ∙ passes)
  any_there (z ∷ xs) (suc i) x there hit passes =
      let rest = any_there xs i x there hit passes in
      elim (cases_Bool (p z)) [
        | inl here ↦ ap (λ b. list_any q (map h (cond b (z ∷ filter p xs) (filter p xs)))) here ∙ or_right (q (h z)) (list_any q (among xs)) rest
        | inr other ↦ ap (λ b. list_any q (map h (cond b (z ∷ filter p xs) (filter p xs)))) other ∙ rest
      ]

  pub count_among : (xs : List X) → count_by q (among xs) ≡ count_by (λ x. p x && q (h x)) xs
  count_among [] = refl
  count_among (x ∷ xs) =
      let rest = count_among xs in
      let whole = sum_by-cons (λ y. cond {A = ℕ} (p y && q (h y)) 1 0) x xs in
      elim (cases_Bool (p x)) [
        | inl hit ↦
            let left = ap (λ b. count_by q (map h (cond b (x ∷ filter p xs) (filter p xs)))) hit ∙ sum_by-cons (λ y. cond {A = ℕ} (q y) 1 0) (h x) (among xs) in
            let right : cond {A = ℕ} (p x && q (h x)) 1 0 ≡ cond {A = ℕ} (q (h x)) 1 0 = ap (λ b. cond {A = ℕ} (b && q (h x)) 1 0) hit in
            omega (arith, left, right, whole, rest)
        | inr miss ↦
            let left = ap (λ b. count_by q (map h (cond b (x ∷ filter p xs) (filter p xs)))) miss in
            let right : cond {A = ℕ} (p x && q (h x)) 1 0 ≡ 0 = ap (λ b. cond {A = ℕ} (b && q (h x)) 1 0) miss in
            omega (arith, left, right, whole, rest)
      ]

-- An element that passes counts once, and two elements count twice.
count_one : {X : Type 0} (p : X → Bool) (xs : List X) (i : ℕ) (x : X) → slice_get xs i ≡ Some x → p x ≡ true → 1 ≤ count_by p xs
count_one p [] i x there hit = absurd (none-some x there)
count_one p (z ∷ xs) zero x there hit =
    let one : cond {A = ℕ} (p z) 1 0 ≡ 1 = ap (λ b. cond {A = ℕ} b 1 0) (ap p (same_Some z x there) ∙ hit) in
    omega (arith, sum_by-cons (λ w. cond {A = ℕ} (p w) 1 0) z xs, one)
count_one p (z ∷ xs) (suc i) x there hit = omega (arith, sum_by-cons (λ w. cond {A = ℕ} (p w) 1 0) z xs, count_one p xs i x there hit)

count_two : {X : Type 0} (p : X → Bool) (xs : List X) (i j : ℕ) (x y : X) → i < j → slice_get xs i ≡ Some x → slice_get xs j ≡ Some y → p x ≡ true → p y ≡ true → 2 ≤ count_by p xs
count_two p [] i j x y before at_i at_j hit_x hit_y = absurd (none-some x at_i)
count_two p (z ∷ zs) i zero x y before at_i at_j hit_x hit_y = absurd (omega arith)
count_two p (z ∷ zs) zero (suc j) x y before at_i at_j hit_x hit_y =
    let one : cond {A = ℕ} (p z) 1 0 ≡ 1 = ap (λ b. cond {A = ℕ} b 1 0) (ap p (same_Some z x at_i) ∙ hit_x) in
    omega (arith, sum_by-cons (λ w. cond {A = ℕ} (p w) 1 0) z zs, one, count_one p zs j y at_j hit_y)
count_two p (z ∷ zs) (suc i) (suc j) x y before at_i at_j hit_x hit_y =
    omega (arith, sum_by-cons (λ w. cond {A = ℕ} (p w) 1 0) z zs, count_two p zs i j x y (omega arith) at_i at_j hit_x hit_y)

-- If at most one session passes, two sessions that pass are the same.
pub one_of_count : (p : Session → Bool) (xs : List Session) (s t : ℕ) (x y : Session) → count_by p xs ≤ 1 → session_numbered xs s ≡ Some x → session_numbered xs t ≡ Some y
    → p x ≡ true → p y ≡ true → s ≡ t
one_of_count p xs zero t x y one at_s at_t hit_x hit_y = absurd (none-some x at_s)
one_of_count p xs (suc i) zero x y one at_s at_t hit_x hit_y = absurd (none-some y at_t)
one_of_count p xs (suc i) (suc j) x y one at_s at_t hit_x hit_y = elim (cases_lt i j) [
  | inl before ↦ absurd (omega (arith, one, count_two p xs i j x y before at_s at_t hit_x hit_y))
  | inr past ↦ elim (cases_lt j i) [
    | inl after ↦ absurd (omega (arith, one, count_two p xs j i y x after at_t at_s hit_y hit_x))
    | inr equal ↦ omega arith
  ]
]

-- ---- one good session per record, one session per blank

-- A session belongs to its own record.
pub for_own : (x : Session) → is_for x.batch x.rec x ≡ true
for_own x = and_from (bytes_eq x.batch x.batch) (bytes_eq x.rec x.rec) (bytes_eq-same x.batch) (bytes_eq-same x.rec)

pub one_good : (f : Facts) (s t : ℕ) (x y : Session) → IsSound f → session_numbered f.sessions s ≡ Some x → session_numbered f.sessions t ≡ Some y
    → session_state f x ≡ session.Good → session_state f y ≡ session.Good → y.batch ≡ x.batch → y.rec ≡ x.rec → s ≡ t
unfolding states_of
one_good f s t x y sound at_s at_t good_x good_y batch rec =
    let own : Session → Bool = is_for x.batch x.rec in
    let q : Session → Bool = λ z. own z && has_card (session_state f z) in
    let one : count_by q f.sessions ≤ 1 = omega (arith, (sound.states.records x.batch x.rec).one_card, count_among has_card (session_state f) own f.sessions) in
    let hit_x : q x ≡ true = and_from (own x) (has_card (session_state f x)) (for_own x) (ap has_card good_x) in
    let own_y : own y ≡ true = ap (λ b. bytes_eq y.batch b && bytes_eq y.rec x.rec) (sym batch) ∙ ap (λ r. bytes_eq y.batch y.batch && bytes_eq y.rec r) (sym rec) ∙ for_own y in
    one_of_count q f.sessions s t x y one at_s at_t hit_x (and_from (own y) (has_card (session_state f y)) own_y (ap has_card good_y))

-- the blank of a session among the charges
charge_at : (f : Facts) (i : ℕ) (x : Session) (d : ℕ) → slice_get f.sessions i ≡ Some x → get_or (charges f) i d ≡ x.blank
charge_at f i x d is =
    let blank_of : Session → ℕ = λ s. s.blank in
    let mapped : slice_get (map blank_of f.sessions) i ≡ Some x.blank = slice_get-map blank_of f.sessions i ∙ ap (option_map blank_of) is in
    get_or_from_slice_get (charges f) i x.blank d
    (slice_get-append_left (map blank_of f.sessions) f.discarded i (slice_get_within (map blank_of f.sessions) i x.blank mapped) ∙ mapped)

pub one_of_blank : (f : Facts) (s t : ℕ) (x y : Session) → IsSound f → session_numbered f.sessions s ≡ Some x → session_numbered f.sessions t ≡ Some y → x.blank ≡ y.blank → s ≡ t
one_of_blank f zero t x y sound at_s at_t same = absurd (none-some x at_s)
one_of_blank f (suc i) zero x y sound at_s at_t same = absurd (none-some y at_t)
one_of_blank f (suc i) (suc j) x y sound at_s at_t same =
    let blank_of : Session → ℕ = λ s. s.blank in
    let once = sound.sessions.charged_once in
    let within : (k : ℕ) (z : Session) → slice_get f.sessions k ≡ Some z → k < length (charges f) =
    λ k z is. omega (arith, slice_get_within f.sessions k z is, length-append (map blank_of f.sessions) f.discarded, length-map f.sessions blank_of) in
    elim (cases_lt i j) [
      | inl before ↦ absurd (once i j 0 before (within j y at_t) (charge_at f i x 0 at_s ∙ same ∙ sym (charge_at f j y 0 at_t)))
      | inr past ↦ elim (cases_lt j i) [
        | inl after ↦ absurd (once j i 0 after (within i x at_s) (charge_at f j y 0 at_t ∙ sym same ∙ sym (charge_at f i x 0 at_s)))
        | inr equal ↦ omega arith
      ]
    ]

-- ---- good sessions stay good

good_is : (t : SessionState) → is_good t ≡ true → t ≡ session.Good
good_is session.Good good = refl
good_is session.Running good = absurd (false≢true good)
good_is session.Spoiled good = absurd (false≢true good)

-- A good session is unchanged.
pub good_session : (f g : Facts) → Later f g → (s : ℕ) (x : Session) → session_numbered f.sessions s ≡ Some x → session_state f x ≡ session.Good
    → (session_numbered g.sessions s ≡ Some x) × (session_state g x ≡ session.Good)
good_session f g later s x there good =
    let y = later s x there in
    let still = y.over (λ runs. running_apart (sym runs ∙ good)) in
    (y.there ∙ ap Some still.0, still.1 ∙ good)
  where
    running_apart : session.Running ≡ session.Good → ⊥
    running_apart e = cc

good_tests : (good running withdrawn failed : Bool)
    → cond good rec.Good (cond running rec.Running (cond withdrawn rec.Withdrawn (cond failed rec.Failed rec.Waiting))) ≡ rec.Good → good ≡ true
good_tests true running withdrawn failed e = refl
good_tests false true withdrawn failed e = absurd (cc)
good_tests false false true failed e = absurd (cc)
good_tests false false false true e = absurd (cc)
good_tests false false false false e = absurd (cc)

good_of_record : (f : Facts) (b r : List ℕ) → record_state f b r ≡ rec.Good → list_any is_good (states_of f b r) ≡ true
unfolding record_state
good_of_record f b r good =
    let states = states_of f b r in
    good_tests (list_any is_good states) (list_any is_running states) (is_withdrawn f b r) (nat_lt (remakes_of f b r) (count_by is_spoiled states)) good

record_of_good : (f : Facts) (b r : List ℕ) → list_any is_good (states_of f b r) ≡ true → record_state f b r ≡ rec.Good
unfolding record_state
record_of_good f b r some = rw some refl

pub good_record : (f g : Facts) → Later f g → (b r : List ℕ) → record_state f b r ≡ rec.Good → record_state g b r ≡ rec.Good
unfolding states_of
good_record f g later b r good =
    let at = any_at is_good (session_state f) (is_for b r) f.sessions (good_of_record f b r good) in
    let still = good_session f g later (suc at.0) at.1 at.2 (good_is (session_state f at.1) at.4) in
    record_of_good g b r (any_there is_good (session_state g) (is_for b r) g.sessions at.0 at.1 still.0 at.3 (ap is_good still.1))

-- ---- status words

-- the tests of a good state
whole_tests : (over stops whole : Bool) → cond (over || stops) session.Spoiled (cond whole session.Good session.Running) ≡ session.Good
    → (over ≡ false) × (stops ≡ false) × (whole ≡ true)
whole_tests true stops whole good = absurd (cc)
whole_tests false true whole good = absurd (cc)
whole_tests false false false good = absurd (cc)
whole_tests false false true good = (refl, refl, refl)

good_parts : (f : Facts) (x : Session) → session_state f x ≡ session.Good
    → (x.ended ≡ false) × (last_stops (commands_for f x.batch x.rec) x.words ≡ false) × ((length x.words == length (commands_for f x.batch x.rec)) ≡ true)
unfolding session_state
good_parts f x good =
    let commands = commands_for f x.batch x.rec in
    whole_tests x.ended (last_stops commands x.words) (length x.words == length commands) good

words_go : (commands : List Command) (words : List ℕ) → AreWords commands words → last_stops commands words ≡ false
    → (k sw : ℕ) → slice_get words k ≡ Some sw → IsTrue (goes_at commands k sw)
words_go commands words are last k sw there = elim (cases_lt (k + 1) (length words)) [
  | inl before ↦ are.go k sw there before
  | inr past ↦
      let place : 0 + k ≡ k = omega arith in
      let within = slice_get_within words k sw there in
      subst (λ n. goes_at commands n sw ≡ true) place (last_goes commands 0 words k sw last there (omega (arith, past, within)))
]

-- A good session has a status word for each command, and all of them let the session continue.
pub good_whole : (f : Facts) (s : ℕ) (x : Session) → IsSound f → session_numbered f.sessions s ≡ Some x → session_state f x ≡ session.Good
    → (length x.words ≡ length (commands_for f x.batch x.rec)) × WordsGo f x
good_whole f s x sound there good =
    let commands = commands_for f x.batch x.rec in
    let parts = good_parts f x good in
    (eqb-true (length x.words) (length commands) parts.2, words_go commands x.words (session_sound f s x sound there).words parts.1)

-- All status words of a running session let it continue, and a command is left.
pub running_begun : (f : Facts) (s : ℕ) (x : Session) → IsSound f → session_numbered f.sessions s ≡ Some x → session_state f x ≡ session.Running
    → (length x.words < length (commands_for f x.batch x.rec)) × WordsGo f x
running_begun f s x sound there runs =
    let commands = commands_for f x.batch x.rec in
    let words = (session_sound f s x sound there).words in
    let parts = running_parts f x runs in
    let few = words.few in
    (omega (arith, few, eqb-false (length x.words) (length commands) parts.1), words_go commands x.words words parts.0)
