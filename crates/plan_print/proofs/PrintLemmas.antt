-- The line of a command, and the text of a batch.
use Rattle.std.proofs.Common.{◌≡◌, ℕ, ◌+◌, ◌/◌, ◌%◌, ◌<◌, List, [], ◌∷◌, ◌++◌, length, take, get_or, set, map, All, None, refl, sym, subst, ap, ◌∙◌, arith}
use Rattle.std.specs.Prelude.{slice_index}
use Rattle.std.specs.List.{flat_map}
use Rattle.std.proofs.lemmas.Grind.{take-set_at}
use Rattle.hex.specs.Hex.{encode_upper, upper_digits}
use Rattle.store_data.specs.Groups.{grouped}
use Rattle.store_data.specs.Sequence.{AreRows}
use Rattle.store_data.specs.declared.row.Product.{Product}
use Rattle.store_data.specs.declared.row.Row.{Row}
use Rattle.store_data.specs.RecordFaults.{record_fault}
use Rattle.store_data.proofs.FaultLemmas.{All-from_map, grouped_each}
use Rattle.batch_import.specs.Outlines.{AreBatchRows}
use Rattle.batch_import.specs.SoundRecords.{AreSoundRecords}
use Rattle.plan_print.specs.Printed.{command_lines, planned_of, printed, record_text, text_of}
use Rattle.plan_print.specs.declared.print.Planned.{Planned}
use Rattle.plan_print.proofs.TextLemmas.{hex_more, record_key, record_rows}

-- ---- the line of a command

pub put_more : (bytes text first second : List ℕ) (i at b high low : ℕ) → i < length bytes → b ≡ get_or bytes i 0 → at < length text → at + 1 < length first
    → take at text ≡ encode_upper (take i bytes) → high ≡ slice_index upper_digits (b / 16) → low ≡ slice_index upper_digits (b % 16)
    → first ≡ set text at high → second ≡ set first (at + 1) low → take (at + 2) second ≡ encode_upper (take (i + 1) bytes)
put_more bytes text first second i at b high low inside is room next so_far of_high of_low one two =
    hex_more [] bytes (take at text) (take (at + 1) first) (take (at + 2) second) i b high low inside is so_far of_high of_low
    (ap (take (at + 1)) one ∙ take-set_at text at (at + 1) high refl room)
    (ap (take (at + 2)) two ∙ take-set_at first (at + 1) (at + 2) low (omega arith) next)

-- ---- records

-- The lines of all planned records are the text of all records.
planned_text : {V : Type 0} (p : Product) (view : V → List Row) (vs : List V) → flat_map text_of (map (λ v. planned_of p (view v)) vs) ≡ flat_map (record_text p) (map view vs)
unfolding text_of record_text command_lines
planned_text p view [] = refl
planned_text p view (v ∷ vs) = ap (λ ys. record_text p (view v) ++ ys) (planned_text p view vs)

pub printed_of : {V : Type 0} (p : Product) (view : V → List Row) (vs : List V) (rows : List Row) (plans : List Planned) → map view vs ≡ grouped record_key rows
    → plans ≡ map (λ v. planned_of p (view v)) vs → flat_map text_of plans ≡ printed p rows
unfolding printed
printed_of p view vs rows plans groups planned = ap (flat_map text_of) planned ∙ planned_text p view vs ∙ ap (flat_map (record_text p)) groups

-- The rows of each record of a batch satisfy `AreRows`.
pub rows_of_records : {V : Type 0} (view : V → List Row) (vs : List V) (rows : List Row) → AreBatchRows rows → map view vs ≡ grouped record_key rows → All (λ v. AreRows (view v)) vs
rows_of_records view vs rows fits groups = All-from_map view AreRows vs (subst (All AreRows) (sym groups) (record_rows rows fits))

-- If the records of a batch are sound, none of them has a fault.
pub sound_records : {V : Type 0} (m : ℕ) (view : V → List Row) (vs : List V) (rows : List Row) → AreSoundRecords m rows → map view vs ≡ grouped record_key rows
    → All (λ v. record_fault m (view v) ≡ None) vs
sound_records m view vs rows sound groups =
    let P : List Row → Type 0 = λ own. record_fault m own ≡ None in
    All-from_map view P vs (subst (All P) (sym groups) (grouped_each record_key P rows sound))
