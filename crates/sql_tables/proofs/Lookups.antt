-- An element that is found in a list is in the list, and is also found in a part of the list.
use Rattle.std.proofs.Common.{◌≡◌, ℕ, zero, suc, ◌+◌, List, [], ◌∷◌, filter, Bool, true, Some, slice_get, inl, inr, ap, subst, ◌∙◌, arith}
use Rattle.std.specs.Prelude.{find}
use Rattle.std.specs.List.{position_from, AllByRecursion}
use Rattle.std.proofs.lemmas.Bool.{cases_Bool}

record IsFrom {X : Type 0} (f : X → Bool) (from : ℕ) (xs : List X) (x : X) : Type 0 where
  at : ℕ
  place : position_from f from xs ≡ Some (from + at)
  there : slice_get xs at ≡ Some x

pub record IsAt {X : Type 0} (f : X → Bool) (xs : List X) (x : X) : Type 0 where
  pub at : ℕ
  pub place : position_from f 0 xs ≡ Some at
  pub there : slice_get xs at ≡ Some x

is_from : {X : Type 0} (f : X → Bool) (from : ℕ) (xs : List X) (x : X) → find f xs ≡ Some x → IsFrom f from xs x
is_from f from [] x h = absurd (cc)
is_from f from (y ∷ ys) x h = elim (cases_Bool (f y)) [
  | inl hit ↦ record { at = 0; place = rw hit (ap Some (omega arith)); there = rw hit at h }
  | inr miss ↦
      let more = is_from f (from + 1) ys x (rw miss at h) in
      let moved : from + 1 + more.at ≡ from + suc more.at = omega arith in
      record { at = suc more.at; place = rw miss (more.place ∙ ap Some moved); there = more.there }
]

pub is_at : {X : Type 0} (f : X → Bool) (xs : List X) (x : X) → find f xs ≡ Some x → IsAt f xs x
is_at f xs x h = let it = is_from f 0 xs x h in let same : 0 + it.at ≡ it.at = omega arith in record { at = it.at; place = it.place ∙ ap Some same; there = it.there }

pub all_at : {X : Type 0} (P : X → Type 0) (xs : List X) (at : ℕ) (x : X) → AllByRecursion P xs → slice_get xs at ≡ Some x → P x
all_at P [] at x all is = absurd (cc)
all_at P (y ∷ ys) zero x all is = let e : y ≡ x = cc in subst P e all.0
all_at P (y ∷ ys) (suc at) x all is = all_at P ys at x all.1 is

-- An element that is found is also found among the elements that satisfy `g`, if it satisfies `g`.
pub find_filter : {X : Type 0} (f g : X → Bool) (xs : List X) (x : X) → find f xs ≡ Some x → g x ≡ true → find f (filter g xs) ≡ Some x
find_filter f g [] x h stays = absurd (cc)
find_filter f g (y ∷ ys) x h stays = elim (cases_Bool (f y)) [
  | inl hit ↦ let same : y ≡ x = let e = rw hit at h in cc in let kept : g y ≡ true = ap g same ∙ stays in rw (kept, hit) (ap Some same)
  | inr miss ↦ let more = find_filter f g ys x (rw miss at h) stays in elim (cases_Bool (g y)) [ inl kept ↦ rw (kept, miss) more | inr gone ↦ rw gone more ]
]
