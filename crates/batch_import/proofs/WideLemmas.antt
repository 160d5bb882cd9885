-- Proves that the first CSV record with too many fields, which is found from the effect of each
-- byte, is one of the CSV records of the text.
use Rattle.std.proofs.Common.{◌≡◌, ◌≤◌, ◌<◌, ◌+◌, ℕ, Bool, true, false, List, [], ◌∷◌, ◌++◌, length, slice_get, Option, Some, None, refl, sym, ap, ◌∙◌, arith, add-one, drop, subst, inl, inr}
use Rattle.std.specs.Prelude.{◌⊎◌, ◌==◌, IfSome, nat_lt, slice_index, if◌then◌else◌}
use Rattle.std.proofs.lemmas.Bool.{cases_Bool, cond_both, ltb-true, ne_eqb}
use Rattle.std.proofs.lemmas.List.{drop_more, length-append}
use Rattle.std.proofs.lemmas.Option.{none-some}
use Rattle.csv.specs.Machine.{Read, ends_at_end, ends_with, field_after, fields_after, in_field, is_end, line_feed, next_record, start_field, start_record, step}
use Rattle.csv.specs.Reading.{default_config, records_next, strip_bom}
use Rattle.csv.specs.declared.parser.Action.{Action}
use Rattle.csv.specs.declared.parser.Action.TheVariants as act
use Rattle.csv.specs.declared.parser.State.{State}
use Rattle.csv.specs.declared.parser.State.TheVariants as st
use Rattle.batch_import.specs.Grammar.{effect_of}
use Rattle.batch_import.specs.Records.{records_of}
use Rattle.batch_import.specs.RecordsLeft.{records_after}
use Rattle.batch_import.specs.RowByRow.{Before, data_rows, file_rows, header_of, row_of}
use Rattle.batch_import.specs.Rows.{HasFault, Records}
use Rattle.batch_import.specs.WideRows.{HasWideAt, IsWideAt, found_after, wide_after}
use Rattle.batch_import.specs.declared.fault.ImportFault.{ImportFault}
use Rattle.batch_import.specs.declared.fault.ImportFault.TheVariants as fault
use Rattle.batch_import.specs.declared.fault.Kind.TheVariants as kind
use Rattle.batch_import.specs.declared.grammar.Effect.{Effect}
use Rattle.batch_import.specs.declared.grammar.Effect.TheVariants as effect
use Rattle.batch_import.proofs.RecordLemmas.{between-step, dropped, records_after-next, records_of-start}

-- ---- a CSV record that has begun ends, and it has more fields than have ended so far

-- a state in a field, or after the closing quote of a field
abbrev is_inside : State → Bool
is_inside st.StartField = true
is_inside st.InField = true
is_inside st.InQuoted = true
is_inside st.AfterQuote = true
is_inside st.InEscape = true
is_inside st.StartRecord = false
is_inside st.InComment = false
is_inside st.AfterCr = false

-- a step ends the CSV record, or leads to a state in a field
abbrev StaysInside : State × Action → Type 0
StaysInside r = is_end r.1 ≡ false → is_inside r.0 ≡ true

inside-field : (c : ℕ) → StaysInside (in_field default_config c)
inside-field c =
    cond_both (c == default_config.delimiter) _ _ StaysInside (λ _ e. refl)
    (λ _. cond_both (ends_with default_config.terminator c) _ _ StaysInside (λ _ e. cc) (λ _ e. refl))

inside-start : (c : ℕ) → StaysInside (start_field default_config c)
inside-start c = cond_both (c == default_config.quote) _ _ StaysInside (λ _ e. refl) (λ _. inside-field c)

inside-step : (s : State) (c : ℕ) → is_inside s ≡ true → StaysInside (step default_config s c)
inside-step st.StartField c inside = inside-start c
inside-step st.InField c inside = inside-field c
inside-step st.InQuoted c inside = cond_both (c == default_config.quote) _ _ StaysInside (λ _ e. refl) (λ _ e. refl)
inside-step st.AfterQuote c inside = cond_both (c == default_config.quote) _ _ StaysInside (λ _ e. refl) (λ _. inside-field c)
inside-step st.InEscape c inside = λ e. refl
inside-step st.StartRecord c inside = absurd (cc)
inside-step st.InComment c inside = absurd (cc)
inside-step st.AfterCr c inside = absurd (cc)

-- after a field that ends, another one begins
abbrev BeginsField : State × Action → Type 0
BeginsField r = r.1 ≡ act.EndField → is_inside r.0 ≡ true

begins-field : (c : ℕ) → BeginsField (in_field default_config c)
begins-field c =
    cond_both (c == default_config.delimiter) _ _ BeginsField (λ _ e. refl)
    (λ _. cond_both (ends_with default_config.terminator c) _ _ BeginsField (λ _ e. cc) (λ _ e. cc))

begins-start : (c : ℕ) → BeginsField (start_field default_config c)
begins-start c = cond_both (c == default_config.quote) _ _ BeginsField (λ _ e. cc) (λ _. begins-field c)

begins-record : (c : ℕ) → BeginsField (start_record default_config c)
begins-record c = cond_both (ends_with default_config.terminator c) _ _ BeginsField (λ _ e. cc) (λ _. begins-start c)

field-step : (s : State) (c : ℕ) → BeginsField (step default_config s c)
field-step st.StartRecord c = begins-record c
field-step st.StartField c = begins-start c
field-step st.InField c = begins-field c
field-step st.InQuoted c = cond_both (c == default_config.quote) _ _ BeginsField (λ _ e. cc) (λ _ e. cc)
field-step st.InEscape c = λ e. cc
field-step st.AfterQuote c = cond_both (c == default_config.quote) _ _ BeginsField (λ _ e. cc) (λ _. begins-field c)
field-step st.InComment c = cond_both (c == line_feed) _ _ BeginsField (λ _ e. cc) (λ _ e. cc)
field-step st.AfterCr c = cond_both (c == line_feed) _ _ BeginsField (λ _ e. cc) (λ _. begins-record c)

-- `o` is a CSV record with more than `k` fields
abbrev IsLonger : ℕ → Option Read → Type 0
IsLonger k o = (p : Read) × (o ≡ Some p) × (k < length p.0)

ends-longer : (s : State) (fields : List (List ℕ)) (field xs : List ℕ) → is_inside s ≡ true → IsLonger (length fields) (next_record default_config s fields field xs)
unfolding next_record
ends-longer s fields field [] inside = at s inside
  where
    at : (s : State) → is_inside s ≡ true → IsLonger (length fields) (if ends_at_end s then Some (fields ++ (field ∷ []), st.StartRecord, []) else None)
    at st.StartField e = ((fields ++ (field ∷ []), st.StartRecord, []), refl, omega (arith, length-append fields (field ∷ [])))
    at st.InField e = ((fields ++ (field ∷ []), st.StartRecord, []), refl, omega (arith, length-append fields (field ∷ [])))
    at st.InQuoted e = ((fields ++ (field ∷ []), st.StartRecord, []), refl, omega (arith, length-append fields (field ∷ [])))
    at st.AfterQuote e = ((fields ++ (field ∷ []), st.StartRecord, []), refl, omega (arith, length-append fields (field ∷ [])))
    at st.InEscape e = ((fields ++ (field ∷ []), st.StartRecord, []), refl, omega (arith, length-append fields (field ∷ [])))
    at st.StartRecord e = absurd (cc)
    at st.InComment e = absurd (cc)
    at st.AfterCr e = absurd (cc)
ends-longer s fields field (c ∷ rest) inside =
    at (step default_config s c) (inside-step s c inside) (λ s fields field. ends-longer s fields field rest)
  where
    at : (r : State × Action) → StaysInside r
        → ((s : State) (fields : List (List ℕ)) (field : List ℕ) → is_inside s ≡ true → IsLonger (length fields) (next_record default_config s fields field rest))
        → IsLonger (length fields)
        (if is_end r.1 then Some (fields_after r.1 fields field, r.0, rest)
        else next_record default_config r.0 (fields_after r.1 fields field) (field_after r.1 c field) rest)
    at (s, act.EndRecord) stays more = ((fields ++ (field ∷ []), s, rest), refl, omega (arith, length-append fields (field ∷ [])))
    at (s, act.EndField) stays more =
        let found = more s (fields ++ (field ∷ [])) [] (stays refl) in
        (found.0, found.1, omega (arith, found.2, length-append fields (field ∷ [])))
    at (s, act.Skip) stays more = more s fields field (stays refl)
    at (s, act.Copy) stays more = more s fields (field ++ (c ∷ [])) (stays refl)

-- ---- CSV records of a text from the middle of one

abbrev from_inside : State → List (List ℕ) → List ℕ → List ℕ → List (List (List ℕ))
from_inside s fields field xs = records_next records_after (next_record default_config s fields field xs)

-- after `records` CSV records, `count` fields of the next one have ended
abbrev IsAfterFields : List (List (List ℕ)) → ℕ → ℕ → State → List (List ℕ) → List ℕ → List ℕ → Type 0
IsAfterFields rows records count s fields field xs =
    (length fields ≡ count) × (1 ≤ count → is_inside s ≡ true) × (drop records rows ≡ from_inside s fields field xs)

first-wide : (rows : List (List (List ℕ))) (n : ℕ) (o : Option Read) → drop n rows ≡ records_next records_after o → IsLonger 6 o → IsWideAt rows n
first-wide rows n o is (p, found, long) =
    let first : drop n rows ≡ p.0 ∷ records_after p.1 p.2 = is ∙ ap (records_next records_after) found in
    (p.0, (dropped rows n p.0 (records_after p.1 p.2) first).0, long)

wide-there : (rows : List (List (List ℕ))) (s : State) (records count : ℕ) (fields : List (List ℕ)) (field xs : List ℕ) (n : ℕ)
    → IsAfterFields rows records count s fields field xs → wide_after s records count xs ≡ Some n → IsWideAt rows n
unfolding wide_after next_record
wide-there rows s records count fields field [] n stands found = absurd (none-some n found)
wide-there rows s records count fields field (c ∷ rest) n (counted, begun, is) found =
    at (step default_config s c) (between-step default_config s c) (field-step s c) (λ e. inside-step s c (begun e))
    (λ s records count fields field. wide-there rows s records count fields field rest n) is found
  where
    at : (r : State × Action) → (is_end r.1 ≡ true → ends_at_end r.0 ≡ false) → BeginsField r → (1 ≤ count → StaysInside r)
        → ((s : State) (records count : ℕ) (fields : List (List ℕ)) (field : List ℕ) → IsAfterFields rows records count s fields field rest → wide_after s records count rest ≡ Some n → IsWideAt rows n)
        → drop records rows ≡ records_next records_after
        (if is_end r.1 then Some (fields_after r.1 fields field, r.0, rest)
        else next_record default_config r.0 (fields_after r.1 fields field) (field_after r.1 c field) rest)
        → found_after (effect_of r.1) records count (λ records count. wide_after r.0 records count rest) ≡ Some n → IsWideAt rows n
    at (s, act.Skip) between begins inside more is found = more s records count fields field (counted, (λ e. inside e refl), is) found
    at (s, act.Copy) between begins inside more is found = more s records count fields (field ++ (c ∷ [])) (counted, (λ e. inside e refl), is) found
    at (s, act.EndRecord) between begins inside more is found =
        let next = (dropped rows records (fields ++ (field ∷ [])) (records_after s rest) is).1 in
        more s (records + 1) 0 [] [] (refl, (λ e. absurd (omega arith)), next ∙ records_after-next s rest (between refl)) found
    at (s, act.EndField) between begins inside more is found = ended (cases_Bool (nat_lt 4 count)) found
      where
        longer : length (fields ++ (field ∷ [])) ≡ count + 1
        longer = omega (arith, length-append fields (field ∷ []), counted)

        ended : (nat_lt 4 count ≡ true) ⊎ (nat_lt 4 count ≡ false)
            → (if nat_lt 4 count then Some records else wide_after s records (count + 1) rest) ≡ Some n → IsWideAt rows n
        ended (inl many) found =
            let whole = ends-longer s (fields ++ (field ∷ [])) [] rest (begins refl) in
            let here : records ≡ n = cc (rw many at found) in
            subst (IsWideAt rows) here (first-wide rows records _ is (whole.0, whole.1, omega (arith, whole.2, longer, ltb-true 4 count many)))
        ended (inr few) found =
            more s records (count + 1) (fields ++ (field ∷ [])) [] (longer, (λ e. begins refl), is) (rw few at found)

-- the index found in a file points to a CSV record with too many fields
pub wide-is : (raw : List ℕ) (o : Option ℕ) → o ≡ wide_after st.StartRecord 0 0 (strip_bom raw) → IfSome o (IsWideAt (records_of raw))
wide-is raw None found = tt
wide-is raw (Some n) found =
    let text = strip_bom raw in
    wide-there (records_of raw) st.StartRecord 0 0 [] [] text n
    (refl, (λ e. absurd (omega arith)), records_of-start raw ∙ records_after-next st.StartRecord text refl) (sym found)

-- ---- one byte of a text

pub byte-on : (text : List ℕ) (i records fields : ℕ) (s now : State) (after : Effect) → i < length text
    → now ≡ (step default_config s (slice_index text i)).0 → after ≡ effect_of (step default_config s (slice_index text i)).1
    → wide_after s records fields (drop i text) ≡ found_after after records fields (λ records fields. wide_after now records fields (drop (i + 1) text))
unfolding wide_after
byte-on text i records fields s now after inside stands is =
    ap (wide_after s records fields) (drop_more text i 0 inside) ∙ rw (stands, is) refl

-- a byte that ends nothing
pub stays : (after : Effect) (records fields : ℕ) (more : ℕ → ℕ → Option ℕ) → (after ≡ effect.Skip) ⊎ (after ≡ effect.Keep)
    → found_after after records fields more ≡ more records fields
stays after records fields more (inl skip) = rw skip refl
stays after records fields more (inr keep) = rw keep refl

-- ---- CSV records to come

pub wide-left : (before : Option ℕ) (rows : Records) (left : Option Records) → left ≡ Some rows → IfSome before (IsWideAt rows) → IfSome before (HasWideAt left)
wide-left None rows left is wide = tt
wide-left (Some n) rows left is wide = (rows, is, wide)

-- after reading a CSV record, one fewer is before the wide one
pub wide-on : (before after : Option ℕ) (left : Option Records) (rest : Records) (fields : List (List ℕ)) → IfSome after (λ n. before ≡ Some (n + 1))
    → IfSome before (HasWideAt left) → left ≡ Some (fields ∷ rest) → IfSome after (HasWideAt (Some rest))
wide-on before None left rest fields fewer wide is = tt
wide-on before (Some n) left rest fields fewer wide is =
    let (rows, there, (found, at, long)) = subst (λ (b : Option ℕ). IfSome b (HasWideAt left)) fewer wide in
    let same : rows ≡ fields ∷ rest = cc in
    let behind : slice_get (fields ∷ rest) (n + 1) ≡ slice_get rest n = rw (add-one) refl in
    (rest, refl, (found, sym behind ∙ subst (λ (r : Records). slice_get r (n + 1) ≡ Some found) same at, long))

-- the fault of a CSV record with too many fields
pub wide-row : (check : Bool) (before : Before) (left : Option Records) (e : ImportFault) → HasWideAt left 0
    → e ≡ fault.At (record { row = before.count + 2; kind = kind.NotSixFields }) → HasFault (data_rows check before) left e
unfolding data_rows row_of
wide-row check before left e ([], there, (found, at, long)) given = absurd (none-some found at)
wide-row check before left e (fields ∷ rest, there, (found, at, long)) given =
    let same : fields ≡ found = cc in
    let many : (length fields == 6) ≡ false = ne_eqb (length fields) 6 (λ six. absurd (omega (arith, six, long, ap length same))) in
    rw given (fields ∷ rest, there, rw many refl)

pub wide-header : (check : Bool) (left : Option Records) (e : ImportFault) → HasWideAt left 0
    → e ≡ fault.At (record { row = 1; kind = kind.NotSixFields }) → HasFault (file_rows check) left e
unfolding header_of
wide-header check left e ([], there, (found, at, long)) given = absurd (none-some found at)
wide-header check left e (fields ∷ rest, there, (found, at, long)) given =
    let same : fields ≡ found = cc in
    let many : (length fields == 6) ≡ false = ne_eqb (length fields) 6 (λ six. absurd (omega (arith, six, long, ap length same))) in
    rw given (fields ∷ rest, there, rw many refl)
