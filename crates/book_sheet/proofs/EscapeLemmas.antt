-- Lemmas: no character of escaped text begins or ends markup.
use Rattle.std.proofs.Common.{◌≡◌, ◌==◌, ◌&&◌, ℕ, true, List, [], ◌∷◌, inl, inr, refl, ap, ◌∙◌}
use Rattle.std.specs.Prelude.{flat_map}
use Rattle.std.proofs.lemmas.Bool.{cases_Bool}
use Rattle.std.proofs.lemmas.List.Folds.{list_all-append}
use Rattle.book_sheet.specs.Html.{escaped, escaped_char, is_text, is_text_char}

char_is_text : (c : ℕ) → is_text (escaped_char c) ≡ true
char_is_text c = elim (cases_Bool (c == 38)) [
  | inl hit ↦ rw hit refl
  | inr amp ↦ rw amp (elim (cases_Bool (c == 60)) [
    | inl hit ↦ rw hit refl
    | inr lt ↦ rw lt (elim (cases_Bool (c == 62)) [
      | inl hit ↦ rw hit refl
      | inr gt ↦ rw gt (elim (cases_Bool (c == 34)) [
        | inl hit ↦ rw hit refl
        | inr quot ↦ rw quot (rw (lt, gt, quot) refl)
      ])
    ])
  ])
]

chars_are_text : (text : List ℕ) → is_text (flat_map escaped_char text) ≡ true
chars_are_text [] = refl
chars_are_text (c ∷ text) =
    list_all-append is_text_char (escaped_char c) (flat_map escaped_char text) ∙ ap (λ b. b && is_text (flat_map escaped_char text)) (char_is_text c) ∙ chars_are_text text

pub escaped_text : (text : List ℕ) → is_text (escaped text) ≡ true
unfolding escaped
escaped_text text = chars_are_text text
