-- Lemmas about right-aligned numbers, and about appending to a text.
use Rattle.std.proofs.Common.{◌≡◌, ℕ, ◌-◌, ◌^◌, List, [], ◌∷◌, ◌++◌, length, sym, ap, ◌∙◌, arith, decimal, append_assoc, append-nil}
use Rattle.std.specs.Prelude.{Result, Ok, Err, OnOk}
use lib.Utf8.{encode}
use Rattle.std.specs.Fmt.{char_count, format_spec, padded_integral, styled_decimal}
use Rattle.std.specs.List.{repeat}
use Rattle.reports.specs.Report.{right_in}

pub right_in_10 : (n : ℕ) → styled_decimal (format_spec 32 3 0 10 (2 ^ 64 - 1)) n ≡ right_in 10 (decimal n)
unfolding padded_integral char_count encode
right_in_10 n =
    let pad = 10 - length (decimal n) in
    let shown : ℕ → ℕ → List ℕ = λ before behind. (((repeat before (32 ∷ []) ++ []) ++ []) ++ []) ++ (decimal n ++ repeat behind (32 ∷ [])) in
    let first : pad - 0 - 0 ≡ pad = omega arith in
    let second : (pad - 0 - 0) - (pad - 0 - 0) ≡ 0 = omega arith in
    let bare : shown pad 0 ≡ repeat pad (32 ∷ []) ++ decimal n = simp (append-nil) in
    (λ i. shown (first i) (second i)) ∙ bare

pub line_is : (label number : List ℕ) → label ++ 32 ∷ (number ++ 10 ∷ []) ≡ ((label ++ 32 ∷ []) ++ number) ++ 10 ∷ []
line_is label number = sym (append_assoc (label ++ 32 ∷ []) number (10 ∷ []) ∙ append_assoc label (32 ∷ []) (number ++ 10 ∷ []))

-- ---- appending to a text

-- appending two texts one after the other
pub after : (s x y : List ℕ) {t u : List ℕ} → t ≡ s ++ x → u ≡ t ++ y → u ≡ s ++ (x ++ y)
after s x y {t} {u} first second = second ∙ ap (λ r. r ++ y) first ∙ append_assoc s x y

pub on_ok : {T E A B : Type 0} (r : Result T E) → (A → B) → OnOk r A → OnOk r B
on_ok (Ok x) h a = h a
on_ok (Err e) h a = tt
