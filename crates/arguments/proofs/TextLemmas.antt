-- The values of options with a text, and the meaning of a missing value.
use Rattle.std.proofs.Common.{◌≡◌, ◌∙◌, ◌≤◌, ℕ, List, Bool, true, false, if◌then◌else◌, refl, codes, inl, inr, Option, None, Some, sym, ap, option_map, string_bytes}
use Rattle.std.specs.Borrow.{Bor}
use Rattle.clap.specs.Words.{Row, Text, first_of, first_value, rows_of}
use Rattle.clap.specs.declared.parser.matches.Found.{Found}
use Rattle.clap.proofs.WalkLemmas.{first_value-rows}
use Rattle.arguments.specs.Words.{FeedsNot, IsNumber, LacksName, ReadsFeed, ReadsNone, ReadsReport, ReadsServe, ReportsNot}
use Rattle.arguments.specs.declared.words.ValueFault.{ValueFault}
use Rattle.arguments.specs.declared.words.ValueFault.TheVariants as lacks
use Rattle.arguments.specs.declared.words.Words.TheVariants.{Serve, Report, Feed}

-- A getter of a text returns the first value of the option in the rows.
pub text_read : (f : Found) (name : Text) (o : Option (Bor Text)) → option_map (λ s. s.now) o ≡ first_value f name → (s : Bor Text) → o ≡ Some s
    → first_of name (rows_of f) ≡ Some s.now
text_read f name o is s some = sym (first_value-rows f name) ∙ sym is ∙ ap (option_map (λ s. s.now)) some

pub no_text : (f : Found) (name : Text) (o : Option (Bor Text)) → option_map (λ s. s.now) o ≡ first_value f name → o ≡ None
    → (t : Text) → first_of name (rows_of f) ≡ Some t → ⊥
no_text f name o is none t has =
    let bad : None ≡ Some t = ap (option_map (λ s. s.now)) (sym none) ∙ is ∙ first_value-rows f name ∙ has in cc

-- If no name was parsed, the text isn't a name.
pub no_name : (t : Text) (b : Bool) (o : Option Text) → o ≡ (if b then Some t else None) → o ≡ None → b ≡ false
no_name t true o is none = let bad : Some t ≡ None = sym is ∙ none in cc
no_name t false o is none = refl

pub name_is : (t : Text) (b : Bool) (o : Option Text) (x : Text) → o ≡ (if b then Some t else None) → o ≡ Some x → x ≡ t
name_is t true o x is some = let same : Some x ≡ Some t = sym some ∙ is in cc
name_is t false o x is some = let bad : Some x ≡ None = sym some ∙ is in cc

pub name_passes : (t : Text) (b : Bool) (o : Option Text) (x : Text) → o ≡ (if b then Some t else None) → o ≡ Some x → b ≡ true
name_passes t true o x is some = refl
name_passes t false o x is some = let bad : Some x ≡ None = sym some ∙ is in cc

-- ---- a missing option of `serve`, `report` or `feed`

pub serve_no_db : (rows : List Row) → ((t : Text) → first_of (codes "db") rows ≡ Some t → ⊥) → ReadsNone (ReadsServe rows)
serve_no_db rows none (Serve db port turns) range reads = none (string_bytes db) reads.0
serve_no_db rows none _ range reads = reads

pub serve_no_port : (rows : List Row) → ((n : ℕ) → 1 ≤ n → n ≤ 65535 → IsNumber (codes "port") rows n → ⊥) → ReadsNone (ReadsServe rows)
serve_no_port rows none (Serve db port turns) range reads = none port range.0 range.1 reads.1
serve_no_port rows none _ range reads = reads

pub serve_no_turns : (rows : List Row) → ((n : ℕ) → 1 ≤ n → n ≤ 1000000 → IsNumber (codes "turns") rows n → ⊥) → ReadsNone (ReadsServe rows)
serve_no_turns rows none (Serve db port turns) range reads = none turns range.2 range.3 reads.2
serve_no_turns rows none _ range reads = reads

pub report_no_db : (rows : List Row) → ((t : Text) → first_of (codes "db") rows ≡ Some t → ⊥) → ReadsNone (ReadsReport rows)
report_no_db rows none (Report db batch) range reads = none (string_bytes db) reads.0
report_no_db rows none _ range reads = reads

pub report_no_batch : (rows : List Row) → ((t : Text) → first_of (codes "batch") rows ≡ Some t → ⊥) → ReadsNone (ReadsReport rows)
report_no_batch rows none (Report db batch) range reads = none batch reads.1.0
report_no_batch rows none _ range reads = reads

pub feed_no_port : (rows : List Row) → ((n : ℕ) → 1 ≤ n → n ≤ 65535 → IsNumber (codes "port") rows n → ⊥) → ReadsNone (ReadsFeed rows)
feed_no_port rows none (Feed port start) range reads = none port range.0 range.1 reads.0
feed_no_port rows none _ range reads = reads

pub feed_no_boot : (rows : List Row) → ((n : ℕ) → 1 ≤ n → n ≤ 9999999999 → IsNumber (codes "boot") rows n → ⊥) → ReadsNone (ReadsFeed rows)
feed_no_boot rows none (Feed port start) range reads = none start.boot range.2.0 range.2.1 reads.2
feed_no_boot rows none _ range reads = reads

pub feed_no_machine : (rows : List Row) → ((t : Text) → first_of (codes "machine") rows ≡ Some t → ⊥) → ReadsNone (ReadsFeed rows)
feed_no_machine rows none (Feed port start) range reads = none start.machine reads.1.0
feed_no_machine rows none _ range reads = reads

pub feed_no_batch : (rows : List Row) → ((t : Text) → first_of (codes "batch") rows ≡ Some t → ⊥) → ReadsNone (ReadsFeed rows)
feed_no_batch rows none (Feed port start) range reads = none start.batch reads.3.0
feed_no_batch rows none _ range reads = reads

-- ---- an option whose value isn't a name

pub reports_not : (rows : List Row) (why : ValueFault) → LacksName (codes "batch") rows why → ReportsNot rows why
reports_not rows lacks.Nothing none = report_no_batch rows none
reports_not rows lacks.BadName bad = bad
reports_not rows lacks.Memory never = tt

pub feeds_not_machine : (rows : List Row) (why : ValueFault) → LacksName (codes "machine") rows why → FeedsNot rows why
feeds_not_machine rows lacks.Nothing none = feed_no_machine rows none
feeds_not_machine rows lacks.BadName bad = inl bad
feeds_not_machine rows lacks.Memory never = never

pub feeds_not_batch : (rows : List Row) (why : ValueFault) → LacksName (codes "batch") rows why → FeedsNot rows why
feeds_not_batch rows lacks.Nothing none = feed_no_batch rows none
feeds_not_batch rows lacks.BadName bad = inr bad
feeds_not_batch rows lacks.Memory never = never
