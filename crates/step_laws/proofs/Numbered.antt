-- Sessions by number, when one changes or one is added.
use Rattle.std.proofs.Common.{◌≡◌, ◌≢◌, ◌⊎◌, ◌+◌, ◌≤◌, ℕ, zero, suc, List, [], ◌∷◌, ◌++◌, length, Some, refl, sym, ap, ◌∙◌, subst, inl, inr, arith}
use Rattle.std.specs.Prelude.{slice_get}
use Rattle.std.proofs.lemmas.Bool.{cases_lt}
use Rattle.std.proofs.lemmas.Option.{get_or_from_slice_get, none-some, same_Some, slice_get_within}
use Rattle.job_facts.specs.Facts.{Facts, Session, at_session}
use Rattle.job_facts.specs.Sound.{IsSession, IsSound}
use Rattle.job_facts.specs.States.{session_numbered}
use Rattle.job_facts.proofs.Lists.{slice_get-append_left}
use Rattle.job_facts.proofs.SessionLemmas.{session_changed}

-- A session of sound facts is sound.
pub session_sound : (f : Facts) (s : ℕ) (x : Session) → IsSound f → session_numbered f.sessions s ≡ Some x → IsSession f x
session_sound f zero x sound is = absurd (none-some x is)
session_sound f (suc s) x sound is =
    subst (IsSession f) (get_or_from_slice_get f.sessions s x x is) (sound.sessions.each s x (slice_get_within f.sessions s x is))

pub numbered_within : (xs : List Session) (s : ℕ) (x : Session) → session_numbered xs s ≡ Some x → s ≤ length xs
numbered_within xs zero x is = absurd (none-some x is)
numbered_within xs (suc i) x is = slice_get_within xs i x is

-- ---- a session is added

pub numbered_push : (xs ys : List Session) (s : ℕ) (x : Session) → session_numbered xs s ≡ Some x → session_numbered (xs ++ ys) s ≡ Some x
numbered_push xs ys zero x is = absurd (none-some x is)
numbered_push xs ys (suc i) x is = slice_get-append_left xs ys i (slice_get_within xs i x is) ∙ is

pub numbered_top : (xs : List Session) (x : Session) → session_numbered (xs ++ x ∷ []) (length xs + 1) ≡ Some x
numbered_top xs x =
    let place : length xs + 1 ≡ suc (length xs) = omega arith in
    ap (session_numbered (xs ++ x ∷ [])) place ∙ top xs
  where
    top : (ys : List Session) → slice_get (ys ++ x ∷ []) (length ys) ≡ Some x
    top [] = refl
    top (y ∷ ys) = top ys

pub numbered_pushed : (xs : List Session) (y : Session) (s : ℕ) (x : Session) → session_numbered (xs ++ y ∷ []) s ≡ Some x → (session_numbered xs s ≡ Some x) ⊎ (x ≡ y)
numbered_pushed xs y zero x is = absurd (none-some x is)
numbered_pushed xs y (suc i) x is = at xs i is
  where
    at : (xs : List Session) (i : ℕ) → slice_get (xs ++ y ∷ []) i ≡ Some x → (slice_get xs i ≡ Some x) ⊎ (x ≡ y)
    at [] zero is = inr (sym (same_Some y x is))
    at [] (suc i) is = absurd (none-some x is)
    at (z ∷ zs) zero is = inl is
    at (z ∷ zs) (suc i) is = at zs i is

-- ---- a session changes

-- The other sessions are unchanged.
pub numbered_other : (xs : List Session) (t : ℕ) (change : Session → Session) (s : ℕ) → s ≢ t → session_numbered (at_session t change xs) s ≡ session_numbered xs s
numbered_other [] t change s apart = refl
numbered_other (y ∷ xs) zero change s apart = refl
numbered_other (y ∷ xs) (suc t) change zero apart = refl
numbered_other (y ∷ xs) (suc zero) change (suc zero) apart = absurd (apart refl)
numbered_other (y ∷ xs) (suc zero) change (suc (suc s)) apart = refl
numbered_other (y ∷ xs) (suc (suc t)) change (suc zero) apart = refl
numbered_other (y ∷ xs) (suc (suc t)) change (suc (suc s)) apart = numbered_other xs (suc t) change (suc s) (λ e. apart (ap suc e))

-- A session is the one that changes, or another.
pub at_or_other : (s t : ℕ) → (s ≡ t) ⊎ (s ≢ t)
at_or_other s t = elim (cases_lt s t) [
  | inl before ↦ inr (λ e. omega arith)
  | inr past ↦ elim (cases_lt t s) [ inl after ↦ inr (λ e. omega arith) | inr same ↦ inl (omega arith) ]
]

-- the session after the change
pub numbered_changed : (xs : List Session) (t : ℕ) (y : Session) (change : Session → Session) (s : ℕ) (now : Session) → session_numbered xs t ≡ Some y
    → session_numbered (at_session t change xs) s ≡ Some now → ((s ≡ t) × (now ≡ change y)) ⊎ ((s ≢ t) × (session_numbered xs s ≡ Some now))
numbered_changed xs t y change s now there is = elim (at_or_other s t) [
  | inl hit ↦ inl (hit, same_Some now (change y) (sym is ∙ ap (session_numbered (at_session t change xs)) hit ∙ session_changed xs t y change there))
  | inr miss ↦ inr (miss, sym (numbered_other xs t change s miss) ∙ is)
]

pub length_changed : (t : ℕ) (change : Session → Session) (xs : List Session) → length (at_session t change xs) ≡ length xs
length_changed t change [] = refl
length_changed zero change (x ∷ xs) = refl
length_changed (suc zero) change (x ∷ xs) = refl
length_changed (suc (suc t)) change (x ∷ xs) = ap suc (length_changed (suc t) change xs)
