-- The output of `persod plan`.
use Rattle.std.proofs.Common.{◌≡◌, ℕ, ◌+◌, ◌<◌, ◌≤◌, ◌/◌, ◌%◌, List, [], ◌∷◌, ◌++◌, length, take, get_or, All, refl, sym, ap, ◌∙◌, arith}
use Rattle.std.specs.Prelude.{bytes_eq, slice_index}
use Rattle.std.proofs.lemmas.List.{append_assoc, take_more}
use Rattle.std.proofs.lemmas.List.Sums.{length-filter, count_by-le-length}
use Rattle.hex.specs.Hex.{encode_with, encode_upper, upper_digits}
use Rattle.store_data.specs.Groups.{grouped}
use Rattle.store_data.specs.Sequence.{AreRows, IsRow}
use Rattle.store_data.specs.declared.row.Row.{Row}
use Rattle.store_data.proofs.FaultLemmas.{grouped_each}
use Rattle.store_data.proofs.IsPlanLemmas.{All-grouped}
use Rattle.batch_import.specs.Outlines.{AreBatchRows}

-- ---- hexadecimal

pub encode_with-push : (t xs : List ℕ) (b : ℕ) → encode_with t (xs ++ b ∷ []) ≡ encode_with t xs ++ slice_index t (b / 16) ∷ slice_index t (b % 16) ∷ []
unfolding encode_with
encode_with-push t [] b = refl
encode_with-push t (x ∷ xs) b = ap (λ ys. slice_index t (x / 16) ∷ slice_index t (x % 16) ∷ ys) (encode_with-push t xs b)

pub hex_more : (start bytes text first second : List ℕ) (i b high low : ℕ) → i < length bytes → b ≡ get_or bytes i 0
    → text ≡ start ++ encode_upper (take i bytes) → high ≡ slice_index upper_digits (b / 16) → low ≡ slice_index upper_digits (b % 16)
    → first ≡ text ++ high ∷ [] → second ≡ first ++ low ∷ [] → second ≡ start ++ encode_upper (take (i + 1) bytes)
hex_more start bytes text first second i b high low inside is so_far of_high of_low one two =
    two ∙ ap (λ ys. ys ++ low ∷ []) (one ∙ ap (λ ys. ys ++ high ∷ []) so_far)
    ∙ append_assoc (start ++ encode_upper (take i bytes)) (high ∷ []) (low ∷ [])
    ∙ append_assoc start (encode_upper (take i bytes)) (high ∷ low ∷ [])
    ∙ ap (λ h. start ++ (encode_upper (take i bytes) ++ h ∷ low ∷ [])) of_high
    ∙ ap (λ l. start ++ (encode_upper (take i bytes) ++ slice_index upper_digits (b / 16) ∷ l ∷ [])) of_low
    ∙ ap (λ ys. start ++ ys) (sym (encode_with-push upper_digits (take i bytes) b) ∙ ap (encode_with upper_digits) (ap (λ d. take i bytes ++ d ∷ []) is ∙ sym (take_more bytes i 0 inside)))

-- ---- records

abbrev pub record_key : Row → List ℕ
record_key row = row.rec

-- The rows of each record of a batch satisfy `AreRows`.
pub record_rows : (rows : List Row) → AreBatchRows rows → All AreRows (grouped record_key rows)
record_rows rows fits =
    let Filled : List Row → Type 0 = λ group. (1 ≤ length group) × All IsRow group in
    let Few : List Row → Type 0 = λ group. length group ≤ 4096 in
    let filled : All Filled (grouped record_key rows) = All-grouped record_key IsRow Filled rows fits.each (λ group each some. (some, each)) in
    let few : All Few (grouped record_key rows) = grouped_each record_key Few rows (λ k. omega (
      arith,
      length-filter (λ (row : Row). bytes_eq row.rec k) rows,
      count_by-le-length (λ (row : Row). bytes_eq row.rec k) rows,
      fits.few,
    )) in
    λ k d inside. record { least = (filled k d inside).0; most = few k d inside; each = (filled k d inside).1 }
