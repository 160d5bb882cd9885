-- Proves that each blank of a product is counted once: no blank is charged twice, and every charged
-- blank is in a lot.
use Rattle.std.proofs.Common.{◌≡◌, ◌≢◌, ◌^◌, ℕ, ◌+◌, ◌<◌, ◌≤◌, Bool, true, false, cond, List, [], ◌∷◌, ◌++◌, length, map, All, Some, refl, sym, ap, subst, ◌∙◌, arith}
use Rattle.std.specs.Prelude.{⊤, bytes_eq, count_by, filter}
use Rattle.std.specs.List.{flat_map}
use Rattle.std.specs.Cmp.{nat_eq_equiv}
use Rattle.std.proofs.lemmas.Bool.{and_parts, eqb-true}
use Rattle.std.proofs.lemmas.Bool.Decides.{Decides-eqb}
use Rattle.std.proofs.lemmas.List.Kept.{AllPairs-filter}
use Rattle.std.proofs.lemmas.List.Elements.{All-filter}
use Rattle.std.proofs.lemmas.List.Sums.{count_by-le-length, length-filter, sum_by-cons, sum_by-le}
use Rattle.std.proofs.lemmas.Map.Made.{IsDistinct-from_AllPairs, is_member-filter, length-le_from_is_member}
use Rattle.job_facts.specs.declared.facts.Lot.{Lot}
use Rattle.job_facts.specs.declared.facts.SessionState.{SessionState}
use Rattle.job_facts.specs.declared.facts.SessionState.TheVariants.{Running, Good, Spoiled}
use Rattle.job_facts.specs.Accounts.{blank_states, blank_totals, is_blank_of, is_lot_of, lots_of}
use Rattle.job_facts.specs.Facts.{Facts, Session}
use Rattle.job_facts.specs.Sound.{IsSound, charges}
use Rattle.job_facts.specs.States.{is_good, is_in, is_running, is_spoiled, lot_of, session_state}
use Rattle.job_facts.proofs.Serials.{has, has_first, has_later, length-all, serials_of}
use Rattle.reports.specs.Accounts.{AreAllCounted}
use Rattle.reports.specs.Values.{charged}

has_kept : (q : ℕ) (keeps : Bool) (l : Lot) (ls : List Lot) → has (flat_map serials_of ls) q ≡ true → has (flat_map serials_of (cond keeps (l ∷ ls) ls)) q ≡ true
has_kept q true l ls h = has_later q l ls h
has_kept q false l ls h = h

none_true : false ≡ true → ⊥
none_true h = subst (λ b. cond b ⊥ ⊤) h tt

-- a blank of the product is among the serials of the product's lots
among_lots : (p : List ℕ) (lots : List Lot) (q : ℕ) → is_lot_of p (lot_of lots q) ≡ true → has (flat_map serials_of (filter (λ (l : Lot). bytes_eq l.product p) lots)) q ≡ true
among_lots p [] q h = absurd (none_true h)
among_lots p (l ∷ lots) q h =
    let rest = filter (λ (m : Lot). bytes_eq m.product p) lots in
    elim (is_in q l) as (λ b. is_in q l ≡ b → is_lot_of p (cond b (Some l) (lot_of lots q)) ≡ true → has (flat_map serials_of (cond (bytes_eq l.product p) (l ∷ rest) rest)) q ≡ true) [
      | true ↦ λ inside own. subst (λ keeps. has (flat_map serials_of (cond keeps (l ∷ rest) rest)) q ≡ true) (sym own) (has_first q l rest inside)
      | false ↦ λ outside own. has_kept q (bytes_eq l.product p) l rest (among_lots p lots q own)
    ] refl h

-- ---- charged blanks

one_state : (s : SessionState) → cond (is_good s) 1 0 + cond (is_running s) 1 0 + cond (is_spoiled s) 1 0 ≡ 1
one_state Running = refl
one_state Good = refl
one_state Spoiled = refl

each_state : (states : List SessionState) → count_by is_good states + count_by is_running states + count_by is_spoiled states ≡ length states
each_state [] = refl
each_state (s ∷ states) = omega (
  arith,
  each_state states,
  one_state s,
  sum_by-cons (λ t. cond (is_good t) 1 0) s states,
  sum_by-cons (λ t. cond (is_running t) 1 0) s states,
  sum_by-cons (λ t. cond (is_spoiled t) 1 0) s states,
)

length-states : (f : Facts) (p : List ℕ) → (sessions : List Session) → length (map (session_state f) (filter (λ (s : Session). is_blank_of f p s.blank) sessions)) + count_by (is_blank_of f p) f.discarded
    ≡ length (filter (is_blank_of f p) (map (λ (s : Session). s.blank) sessions ++ f.discarded))
length-states f p [] = omega (arith, length-filter (is_blank_of f p) f.discarded)
length-states f p (s ∷ sessions) =
    let own = is_blank_of f p in
    let kept = filter (λ (t : Session). own t.blank) sessions in
    let blanks = filter own (map (λ (t : Session). t.blank) sessions ++ f.discarded) in
    elim (own s.blank) as (λ b. length (map (session_state f) (cond b (s ∷ kept) kept)) + count_by own f.discarded ≡ length (cond b (s.blank ∷ blanks) blanks)) [
      | true ↦ omega (arith, length-states f p sessions)
      | false ↦ length-states f p sessions
    ]

-- the number of charged blanks is the number of the product's blanks that an `open` or a `discard`
-- named
charged_are : (f : Facts) (p : List ℕ) → charged (blank_totals f p) ≡ length (filter (is_blank_of f p) (charges f))
unfolding blank_totals blank_states
charged_are f p = omega (arith, each_state (blank_states f p), length-states f p f.sessions)

pub few_charged : (f : Facts) (p : List ℕ) → IsSound f → charged (blank_totals f p) ≤ (blank_totals f p).total
unfolding blank_totals
few_charged f p sound =
    let own = is_blank_of f p in
    let once = IsDistinct-from_AllPairs Decides-eqb (filter own (charges f)) (AllPairs-filter (λ a b. a ≢ b) own (charges f) sound.sessions.charged_once) in
    let inside : (q : ℕ) → has (filter own (charges f)) q ≡ true → has (flat_map serials_of (lots_of f p)) q ≡ true = λ q h.
    among_lots p f.lots q (and_parts (has (charges f) q) (own q) (sym (is_member-filter nat_eq_equiv own q (λ x same. ap own (eqb-true q x same)) (charges f)) ∙ h)).1 in
    omega (
      arith,
      charged_are f p,
      length-le_from_is_member nat_eq_equiv (filter own (charges f)) (flat_map serials_of (lots_of f p)) once inside,
      length-all (lots_of f p),
    )

pub all_counted : (f : Facts) (p : List ℕ) → IsSound f → AreAllCounted (blank_totals f p)
all_counted f p sound = omega (arith, few_charged f p sound)

-- the number of charged blanks fits in 64 bits
pub charged_fits : (f : Facts) (p : List ℕ) → IsSound f → charged (blank_totals f p) < 2 ^ 64
unfolding blank_totals
charged_fits f p sound =
    let own : Lot → Bool = λ l. bytes_eq l.product p in
    let most : All (λ (l : Lot). l.count ≤ 1000000) (lots_of f p) = All-filter own (λ (l : Lot). l.count ≤ 1000000) f.lots (λ k d inside. (sound.named.lots.each k d inside).most) in
    omega (
      arith,
      few_charged f p sound,
      sum_by-le (λ (l : Lot). l.count) 1000000 (lots_of f p) most,
      length-filter own f.lots,
      count_by-le-length own f.lots,
      sound.named.lots.few,
    )
