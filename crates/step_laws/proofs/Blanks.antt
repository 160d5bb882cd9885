-- Blanks and their sessions.
use Rattle.std.proofs.Common.{◌≡◌, ◌≢◌, ◌==◌, ℕ, zero, suc, Bool, true, false, cond, List, [], ◌∷◌, Some, refl, sym, ap, ◌∙◌, inl, inr, eq-eqb, arith}
use Rattle.std.specs.Prelude.{filter, slice_get}
use Rattle.std.specs.List.{list_any}
use Rattle.std.proofs.lemmas.Bool.{cases_Bool, eqb-true, false≢true, or_left, or_parts, or_right}
use Rattle.std.proofs.lemmas.Option.{none-some, same_Some}
use Rattle.job_facts.specs.Facts.{Facts, Session}
use Rattle.job_facts.specs.Sound.{IsSound}
use Rattle.job_facts.specs.States.{is_charged, session_numbered}
use Rattle.step_laws.proofs.GoodCards.{one_of_blank}

any_at : {X : Type 0} (p : X → Bool) (xs : List X) (i : ℕ) (x : X) → slice_get xs i ≡ Some x → p x ≡ true → list_any p xs ≡ true
any_at p [] i x there hit = absurd (none-some x there)
any_at p (z ∷ zs) zero x there hit = or_left (p z) (list_any p zs) (ap p (same_Some z x there) ∙ hit)
any_at p (z ∷ zs) (suc i) x there hit = or_right (p z) (list_any p zs) (any_at p zs i x there hit)

-- A blank that isn't charged has no session.
pub uncharged : (f : Facts) (blank s : ℕ) (x : Session) → is_charged f blank ≡ false → session_numbered f.sessions s ≡ Some x → x.blank ≢ blank
uncharged f blank zero x free is same = none-some x is
uncharged f blank (suc i) x free is same =
    let has : Session → Bool = λ s. s.blank == blank in
    let none = (or_parts (list_any has f.sessions) (list_any (λ b. b == blank) f.discarded) free).0 in
    false≢true (sym none ∙ any_at has f.sessions i x is (eq-eqb x.blank blank same))

-- the only element that passes a test
filter_one : {X : Type 0} (p : X → Bool) (xs : List X) (i : ℕ) (x : X) → slice_get xs i ≡ Some x → p x ≡ true
    → ((j : ℕ) (y : X) → slice_get xs j ≡ Some y → p y ≡ true → j ≡ i) → filter p xs ≡ x ∷ []
filter_one p [] i x is passes one = absurd (none-some x is)
filter_one {X = X} p (z ∷ zs) zero x is passes one =
    let same : z ≡ x = same_Some z x is in
    ap (λ b. cond b (z ∷ filter p zs) (filter p zs)) (ap p same ∙ passes) ∙ ap (λ ys. z ∷ ys) (none zs (λ j y there hit. absurd (suc_apart j (one (suc j) y there hit)))) ∙ ap (λ w. w ∷ []) same
  where
    suc_apart : (j : ℕ) → suc j ≡ 0 → ⊥
    suc_apart j e = omega arith

    none : (ys : List X) → ((j : ℕ) (y : X) → slice_get ys j ≡ Some y → p y ≡ true → ⊥) → filter p ys ≡ []
    none [] h = refl
    none (y ∷ ys) h = elim (cases_Bool (p y)) [
      | inl hit ↦ absurd (h 0 y refl hit)
      | inr miss ↦ ap (λ b. cond b (y ∷ filter p ys) (filter p ys)) miss ∙ none ys (λ j. h (suc j))
    ]
filter_one p (z ∷ zs) (suc i) x is passes one = elim (cases_Bool (p z)) [
  | inl hit ↦ absurd (apart (one 0 z refl hit))
  | inr miss ↦ ap (λ b. cond b (z ∷ filter p zs) (filter p zs)) miss ∙ filter_one p zs i x is passes (λ j y there hit. let e = one (suc j) y there hit in omega arith)
]
  where
    apart : 0 ≡ suc i → ⊥
    apart e = omega arith

-- A session is the only one on its blank.
pub only_of_blank : (f : Facts) (s : ℕ) (x : Session) → IsSound f → session_numbered f.sessions s ≡ Some x → filter (λ (y : Session). y.blank == x.blank) f.sessions ≡ x ∷ []
only_of_blank f zero x sound is = absurd (none-some x is)
only_of_blank f (suc i) x sound is =
    filter_one (λ (y : Session). y.blank == x.blank) f.sessions i x is (eq-eqb x.blank x.blank refl)
    (λ j y there hit. let e = one_of_blank f (suc j) (suc i) y x sound there is (eqb-true y.blank x.blank hit) in omega arith)
