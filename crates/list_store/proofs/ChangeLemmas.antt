-- A change of one session, by its index.
use Rattle.std.proofs.Common.{◌≡◌, ℕ, zero, suc, ◌-◌, ◌<◌, ◌≤◌, List, [], ◌∷◌, length, get_or, set, refl, ap, ◌∙◌, arith}
use Rattle.job_facts.specs.Facts.{Session, at_session}

module _ (change : Session → Session) where
  set_at : (sessions : List Session) (i : ℕ) (d new : Session) → i < length sessions → new ≡ change (get_or sessions i d)
      → set sessions i new ≡ at_session (suc i) change sessions
  set_at [] i d new within is = absurd (omega arith)
  set_at (x ∷ sessions) zero d new within is = ap (λ y. y ∷ sessions) is
  set_at (x ∷ sessions) (suc i) d new within is = ap (λ ys. x ∷ ys) (set_at sessions i d new (omega arith) is)

  pub changed_session : (sessions : List Session) (s : ℕ) (d new : Session) → 0 < s → s ≤ length sessions → new ≡ change (get_or sessions (s - 1) d)
      → set sessions (s - 1) new ≡ at_session s change sessions
  changed_session sessions s d new least most is =
      let place : suc (s - 1) ≡ s = omega arith in
      set_at sessions (s - 1) d new (omega arith) is ∙ ap (λ n. at_session n change sessions) place

  -- If no session has the number `s`, nothing changes.
  pub no_session : (sessions : List Session) (s : ℕ) → (0 < s → length sessions < s) → sessions ≡ at_session s change sessions
  no_session [] s e = refl
  no_session (x ∷ sessions) zero e = refl
  no_session (x ∷ sessions) (suc zero) e = let past : length (x ∷ sessions) < 1 = e (omega arith) in absurd (omega arith)
  no_session (x ∷ sessions) (suc (suc s)) e =
      let past : length (x ∷ sessions) < suc (suc s) = e (omega arith) in ap (λ ys. x ∷ ys) (no_session sessions (suc s) (λ some. omega arith))
