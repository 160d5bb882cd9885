-- Proves that a row begins after the rows before it, and counts lines.
use Rattle.std.proofs.Common.{◌≡◌, ◌≤◌, ◌<◌, ◌+◌, ◌-◌, ℕ, zero, suc, Bool, true, false, List, [], ◌∷◌, ◌++◌, length, slice_get, Option, Some, None, refl, sym, subst, ap, ◌∙◌, arith, drop, inl, inr}
use Rattle.std.specs.Prelude.{◌==◌, option_map, slice_index, unwrap_or, if◌then◌else◌}
use Rattle.std.specs.List.{prefix_len}
use Rattle.std.proofs.Math.Numerals.{one-add}
use Rattle.std.proofs.lemmas.Bool.{cases_Bool, eqb-false, eqb-true, or_right}
use Rattle.std.proofs.lemmas.List.{drop_more}
use Rattle.csv.specs.Machine.{Read, ends_at_end, field_after, fields_after, is_end, line_feed, next_record, step}
use Rattle.csv.specs.Reading.{default_config, records_next, strip_bom}
use Rattle.csv.specs.declared.parser.State.{State}
use Rattle.csv.specs.declared.parser.State.TheVariants as st
use Rattle.batch_import.specs.Fields.{field}
use Rattle.batch_import.specs.Grammar.{effect_of, is_row_end}
use Rattle.batch_import.specs.RecordsLeft.{records_after}
use Rattle.batch_import.specs.declared.grammar.Effect.{Effect}
use Rattle.batch_import.proofs.RecordLemmas.{next-shorter, records_after-next, records_of-start}
use Rattle.import_causes.specs.RowTexts.{IsOf, fields_read, first_row}
use Rattle.import_causes.specs.Starts.{after_read, after_rows, ends_line, from_row, is_line_byte, label_of, line_at, line_ends, row_fields, start_at, without_line_ends}
use Rattle.import_causes.specs.declared.fields.RowText.{RowText}
use Rattle.import_causes.specs.declared.start.RowLabel.{RowLabel}
use Rattle.import_causes.proofs.GrammarLemmas.{by-end, by-more, ends-same, read-byte}

-- ---- rows that are skipped

-- while the first `rows` rows of `text` are skipped: `left` of them still end, and `rest` are the
-- bytes still to be read
pub record IsSkipping (text : List ℕ) (rows : ℕ) (s : State) (left : ℕ) (rest : List ℕ) : Type 0 where
  pub more : ℕ
  pub fields : List (List ℕ)
  pub field : List ℕ
  pub left_is : left ≡ more + 1
  pub same : after_rows rows st.StartRecord text ≡ after_read (after_rows more) (next_record default_config s fields field rest)

pub skip-start : (text : List ℕ) (rows : ℕ) → 1 ≤ rows → IsSkipping text rows st.StartRecord rows text
unfolding after_rows
skip-start text zero some = absurd (omega arith)
skip-start text (suc n) some = record { more = n; fields = []; field = []; left_is = omega arith; same = refl }

-- no row was skipped, or one more is skipped next
pub after-zero : (more : ℕ) (s : State) (xs : List ℕ) → more ≡ 0 → after_rows more s xs ≡ xs
unfolding after_rows
after-zero zero s xs none = refl
after-zero (suc n) s xs none = absurd (omega arith)

after-more : (more : ℕ) (s : State) (xs : List ℕ) → 1 ≤ more
    → (n : ℕ) × (more ≡ n + 1) × (after_rows more s xs ≡ after_read (after_rows n) (next_record default_config s [] [] xs))
unfolding after_rows
after-more zero s xs some = absurd (omega arith)
after-more (suc n) s xs some = (n, omega arith, refl)

module _ (text : List ℕ) (rows left : ℕ) (s now : State) (c : ℕ) (rest : List ℕ) (ended : Effect)
    (stands : now ≡ (step default_config s c).0) (ends : ended ≡ effect_of (step default_config s c).1) (w : IsSkipping text rows s left (c ∷ rest)) where
  -- a byte that doesn't end a row
  pub skip-byte : is_row_end ended ≡ false → IsSkipping text rows now left rest
  skip-byte not_end =
      let r = step default_config s c in
      let inside : is_end r.1 ≡ false = sym (ends-same r.1) ∙ ap is_row_end (sym ends) ∙ not_end in
      record {
        more = w.more;
        fields = fields_after r.1 w.fields w.field;
        field = field_after r.1 c w.field;
        left_is = w.left_is;
        same = w.same ∙ ap (after_read (after_rows w.more)) (read-byte s w.fields w.field c rest ∙ by-more w.fields w.field c rest r inside
            ∙ ap (λ (t : State). next_record default_config t (fields_after r.1 w.fields w.field) (field_after r.1 c w.field) rest) (sym stands));
      }

  after-row : is_row_end ended ≡ true → after_rows rows st.StartRecord text ≡ after_rows w.more now rest
  after-row is =
      let r = step default_config s c in
      let end : is_end r.1 ≡ true = sym (ends-same r.1) ∙ ap is_row_end (sym ends) ∙ is in
      w.same ∙ ap (after_read (after_rows w.more)) (read-byte s w.fields w.field c rest ∙ by-end w.fields w.field c rest r end)
      ∙ ap (λ (t : State). after_rows w.more t rest) (sym stands)

  -- a byte that ends a row, but not the last
  pub skip-row : is_row_end ended ≡ true → (left ≡ 1 → ⊥) → IsSkipping text rows now (left - 1) rest
  skip-row is many =
      let some : 1 ≤ w.more = omega (arith, w.left_is, many) in
      let next = after-more w.more now rest some in
      record {
        more = next.0;
        fields = [];
        field = [];
        left_is = omega (arith, w.left_is, next.1);
        same = after-row is ∙ next.2;
      }

  -- a byte that ends the last row
  pub skip-last : is_row_end ended ≡ true → left ≡ 1 → after_rows rows st.StartRecord text ≡ rest
  skip-last is last = after-row is ∙ after-zero w.more now rest (omega (arith, w.left_is, last))

-- the next byte of the text
pub skip-at : (text : List ℕ) (rows left : ℕ) (s : State) (i : ℕ) → i < length text → IsSkipping text rows s left (drop i text)
    → IsSkipping text rows s left (slice_index text i ∷ drop (i + 1) text)
skip-at text rows left s i within w = subst (IsSkipping text rows s left) (drop_more text i 0 within) w

-- an empty text has no rows
after-nothing : (n : ℕ) → after_rows n st.StartRecord [] ≡ []
unfolding after_rows next_record
after-nothing zero = refl
after-nothing (suc n) = refl

-- the end of the text
pub skip-end : (text : List ℕ) (rows left : ℕ) (s : State) → IsSkipping text rows s left [] → after_rows rows st.StartRecord text ≡ []
unfolding next_record
skip-end text rows left s w = w.same ∙ at (ends_at_end s)
  where
    at : (b : Bool) → after_read (after_rows w.more) (if b then Some (w.fields ++ (w.field ∷ []), st.StartRecord, []) else None) ≡ []
    at true = after-nothing w.more
    at false = refl

-- ---- line ends before a row

start-skip : (c : ℕ) (rest : List ℕ) → is_line_byte c ≡ true → next_record default_config st.StartRecord [] [] (c ∷ rest) ≡ next_record default_config st.StartRecord [] [] rest
unfolding next_record
start-skip c rest hit = rw hit refl

ends-more : (c : ℕ) (rest : List ℕ) → is_line_byte c ≡ true → without_line_ends (c ∷ rest) ≡ without_line_ends rest
ends-more c rest hit = rw (hit, one-add) refl

ends-none : (c : ℕ) (rest : List ℕ) → is_line_byte c ≡ false → without_line_ends (c ∷ rest) ≡ c ∷ rest
ends-none c rest miss = rw miss refl

-- line ends before a row don't change it
start-ends : (xs : List ℕ) → next_record default_config st.StartRecord [] [] xs ≡ next_record default_config st.StartRecord [] [] (without_line_ends xs)
start-ends [] = refl
start-ends (c ∷ rest) = elim (cases_Bool (is_line_byte c)) [
  | inl hit ↦ start-skip c rest hit ∙ start-ends rest ∙ ap (next_record default_config st.StartRecord [] []) (sym (ends-more c rest hit))
  | inr miss ↦ ap (next_record default_config st.StartRecord [] []) (sym (ends-none c rest miss))
]

cr-skip : (c : ℕ) (rest : List ℕ) → (c == line_feed) ≡ true → next_record default_config st.AfterCr [] [] (c ∷ rest) ≡ next_record default_config st.StartRecord [] [] rest
unfolding next_record
cr-skip c rest hit = rw hit refl

cr-other : (c : ℕ) (rest : List ℕ) → (c == line_feed) ≡ false → next_record default_config st.AfterCr [] [] (c ∷ rest) ≡ next_record default_config st.StartRecord [] [] (c ∷ rest)
unfolding next_record
cr-other c rest miss = rw miss refl

-- after a CR that ended a row, the next row is the same as elsewhere between two rows
cr-start : (xs : List ℕ) → next_record default_config st.AfterCr [] [] xs ≡ next_record default_config st.StartRecord [] [] xs
unfolding next_record
cr-start [] = refl
cr-start (c ∷ rest) = elim (cases_Bool (c == line_feed)) [
  | inl hit ↦ cr-skip c rest hit ∙ sym (start-skip c rest (or_right (c == 13) (c == line_feed) hit))
  | inr miss ↦ cr-other c rest miss
]

skip-ends : (s : State) (xs : List ℕ) → ends_at_end s ≡ false → next_record default_config s [] [] xs ≡ next_record default_config st.StartRecord [] [] (without_line_ends xs)
skip-ends st.StartRecord xs between = start-ends xs
skip-ends st.AfterCr xs between = cr-start xs ∙ start-ends xs
skip-ends st.StartField xs between = absurd (cc)
skip-ends st.InField xs between = absurd (cc)
skip-ends st.InQuoted xs between = absurd (cc)
skip-ends st.AfterQuote xs between = absurd (cc)
skip-ends st.InEscape xs between = absurd (cc)
skip-ends st.InComment xs between = absurd (cc)

-- ---- the fields of a row

head-next : (o : Option Read) → slice_get (records_next records_after o) 0 ≡ option_map (λ (p : Read). p.0) o
head-next None = refl
head-next (Some p) = refl

-- the row at the start of a text, without line ends before it
abbrev row_at : List ℕ → Option (List (List ℕ))
row_at xs = option_map (λ (p : Read). p.0) (next_record default_config st.StartRecord [] [] (without_line_ends xs))

no-row : next_record default_config st.StartRecord [] [] [] ≡ None
unfolding next_record
no-row = refl

row-there : (n : ℕ) (s : State) (xs : List ℕ) → ends_at_end s ≡ false → slice_get (records_after s xs) n ≡ row_at (after_rows n s xs)
unfolding after_rows
row-there zero s xs between =
    ap (λ (rows : List (List (List ℕ))). slice_get rows 0) (records_after-next s xs between) ∙ head-next (next_record default_config s [] [] xs)
    ∙ ap (option_map (λ (p : Read). p.0)) (skip-ends s xs between)
row-there (suc n) s xs between =
    ap (λ (rows : List (List (List ℕ))). slice_get rows (suc n)) (records_after-next s xs between)
    ∙ later n (λ s xs between. row-there n s xs between) (next_record default_config s [] [] xs) (λ p e. (next-shorter default_config s xs p between e).0)
  where
    later : (n : ℕ) → ((s : State) (xs : List ℕ) → ends_at_end s ≡ false → slice_get (records_after s xs) n ≡ row_at (after_rows n s xs))
        → (o : Option Read) → ((p : Read) → o ≡ Some p → ends_at_end p.1 ≡ false)
        → slice_get (records_next records_after o) (suc n) ≡ row_at (after_read (after_rows n) o)
    later n there None ends = sym (ap (option_map (λ (p : Read). p.0)) no-row)
    later n there (Some p) ends = there p.1 p.2 (ends p refl)

read-fields : (o : Option Read) → unwrap_or (option_map (λ (p : Read). p.0) o) [] ≡ fields_read o
read-fields None = refl
read-fields (Some p) = refl

-- the fields of a row are the first row of the bytes from its first byte on
pub fields-there : (n : ℕ) (raw : List ℕ) → row_fields n raw ≡ first_row (from_row n raw)
fields-there n raw =
    ap (λ (rows : List (List (List ℕ))). unwrap_or (slice_get rows (n - 1)) []) (records_of-start raw)
    ∙ ap (λ (o : Option (List (List ℕ))). unwrap_or o []) (row-there (n - 1) st.StartRecord (strip_bom raw) refl)
    ∙ read-fields (next_record default_config st.StartRecord [] [] (from_row n raw))

-- the row that is read from its first byte on has the fields of row `n` of the file
pub row-read : (raw : List ℕ) (n : ℕ) (rest : List ℕ) (row : RowText) → rest ≡ from_row n raw → IsOf row (first_row rest) → IsOf row (row_fields n raw)
row-read raw n rest row of_rest is = subst (IsOf row) (ap first_row of_rest ∙ sym (fields-there n raw)) is

-- the bytes from the first byte of a row on, from the results of each step
pub from-row-is : (raw text rest : List ℕ) (row n k : ℕ) → text ≡ strip_bom raw → n ≡ row - 1 → rest ≡ after_rows n st.StartRecord text
    → k ≡ prefix_len is_line_byte rest → drop k rest ≡ from_row row raw
from-row-is raw text rest row n k of_text of_n of_rest of_k = rw (of_k, of_rest, of_text, of_n) refl

-- ---- lines

pub line-step : (text : List ℕ) (i : ℕ) (after_cr : Bool) → i < length text
    → line_ends after_cr (drop i text) ≡ (if ends_line after_cr (slice_index text i) then 1 else 0) + line_ends (slice_index text i == 13) (drop (i + 1) text)
unfolding line_ends
line-step text i after_cr within = ap (line_ends after_cr) (drop_more text i 0 within)

-- one more byte, which ends a line or not
pub line-counted : (text : List ℕ) (i ends more total : ℕ) (after_cr ended : Bool) → i < length text → ended ≡ ends_line after_cr (slice_index text i)
    → more ≡ ends + (if ended then 1 else 0) → total ≡ ends + line_ends after_cr (drop i text)
    → total ≡ more + line_ends (slice_index text i == 13) (drop (i + 1) text)
line-counted text i ends more total after_cr ended within is counted all =
    omega (arith, line-step text i after_cr within, ap {B = ℕ} (λ (b : Bool). if b then 1 else 0) is, counted, all)

pub line-none : (after_cr : Bool) → line_ends after_cr [] ≡ 0
unfolding line_ends
line-none after_cr = refl

-- ---- the start of a row

pub start-none : (raw rest : List ℕ) (fields : List (List ℕ)) → (length rest == 0) ≡ true → None ≡ start_at raw rest fields
start-none raw [] fields empty = refl
start-none raw (c ∷ rest) fields empty = absurd (omega (arith, eqb-true (length (c ∷ rest)) 0 empty))

pub start-some : (raw rest : List ℕ) (fields : List (List ℕ)) (line : ℕ) (label : RowLabel) → (length rest == 0) ≡ false → line ≡ line_at raw (length rest)
    → label ≡ label_of (field fields 0) → Some (record { line = line; label = label }) ≡ start_at raw rest fields
start-some raw [] fields line label empty of_line of_label = absurd (eqb-false 0 0 empty refl)
start-some raw (c ∷ rest) fields line label empty of_line of_label = rw (of_line, of_label) refl
