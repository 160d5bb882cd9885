-- If an option of a subcommand is missing or has a wrong value, the arguments ask for no run.
use Rattle.std.proofs.Common.{◌≡◌, ◌≢◌, ◌∙◌, Bool, true, false, List, Option, Some, None, Result, IfErr, IfOk, codes, refl, sym, ap, subst, inl, inr}
use Rattle.std.specs.Prelude.{IfSome, bytes_eq}
use Rattle.clap.specs.Words.{Row, Text, first_of}
use Rattle.arguments.specs.Words.{IsFlag}
use Rattle.arguments.specs.Words.{LacksName}
use Rattle.book_arguments.specs.Words.{Asks, AsksNot, HasState, IsForm, LacksState}
use Rattle.book_lines.specs.declared.blank_state.BlankState.{BlankState}
use Rattle.book_arguments.specs.declared.words.Ask.{Ask}
use Rattle.book_arguments.specs.declared.words.Ask.TheVariants.{Check, Lists, Cards, Blanks, Machines, Sheet}
use Rattle.arguments.specs.declared.words.ValueFault.{ValueFault}
use Rattle.arguments.specs.declared.words.ValueFault.TheVariants as lacks

-- Two texts are different if `bytes_eq` distinguishes them.
distinct : (a b : Text) → bytes_eq a a ≡ true → bytes_eq a b ≡ false → a ≡ b → ⊥
distinct a b same other is = let bad : true ≡ false = sym same ∙ ap (bytes_eq a) is ∙ other in cc

-- ---- a subcommand with options of its own

module _ (rows : List Row) where
  no_product : ((t : Text) → first_of (codes "product") rows ≡ Some t → ⊥) → (ask : Ask) → Asks (codes "blanks") rows ask → ⊥
  no_product none Check asks = distinct (codes "blanks") (codes "check") refl refl asks.0
  no_product none Lists asks = distinct (codes "blanks") (codes "list") refl refl asks.0
  no_product none (Cards batch) asks = distinct (codes "blanks") (codes "cards") refl refl asks.0
  no_product none (Blanks product state) asks = none product asks.1.0.0
  no_product none Machines asks = distinct (codes "blanks") (codes "machines") refl refl asks.0
  no_product none (Sheet batch) asks = distinct (codes "blanks") (codes "sheet") refl refl asks.0

  no_state : ((state : Option BlankState) → HasState rows state → ⊥) → (ask : Ask) → Asks (codes "blanks") rows ask → ⊥
  no_state none Check asks = distinct (codes "blanks") (codes "check") refl refl asks.0
  no_state none Lists asks = distinct (codes "blanks") (codes "list") refl refl asks.0
  no_state none (Cards batch) asks = distinct (codes "blanks") (codes "cards") refl refl asks.0
  no_state none (Blanks product state) asks = none state asks.1.1
  no_state none Machines asks = distinct (codes "blanks") (codes "machines") refl refl asks.0
  no_state none (Sheet batch) asks = distinct (codes "blanks") (codes "sheet") refl refl asks.0

  no_cards : ((t : Text) → first_of (codes "batch") rows ≡ Some t → ⊥) → (ask : Ask) → Asks (codes "cards") rows ask → ⊥
  no_cards none Check asks = distinct (codes "cards") (codes "check") refl refl asks.0
  no_cards none Lists asks = distinct (codes "cards") (codes "list") refl refl asks.0
  no_cards none (Cards batch) asks = none batch asks.1.0
  no_cards none (Blanks product state) asks = distinct (codes "cards") (codes "blanks") refl refl asks.0
  no_cards none Machines asks = distinct (codes "cards") (codes "machines") refl refl asks.0
  no_cards none (Sheet batch) asks = distinct (codes "cards") (codes "sheet") refl refl asks.0

  no_sheet : ((t : Text) → first_of (codes "batch") rows ≡ Some t → ⊥) → (ask : Ask) → Asks (codes "sheet") rows ask → ⊥
  no_sheet none Check asks = distinct (codes "sheet") (codes "check") refl refl asks.0
  no_sheet none Lists asks = distinct (codes "sheet") (codes "list") refl refl asks.0
  no_sheet none (Cards batch) asks = distinct (codes "sheet") (codes "cards") refl refl asks.0
  no_sheet none (Blanks product state) asks = distinct (codes "sheet") (codes "blanks") refl refl asks.0
  no_sheet none Machines asks = distinct (codes "sheet") (codes "machines") refl refl asks.0
  no_sheet none (Sheet batch) asks = none batch asks.1.0

  pub without_product : (why : ValueFault) → LacksName (codes "product") rows why → AsksNot (codes "blanks") rows why
  without_product lacks.Nothing none = no_product none
  without_product lacks.BadName bad = inl (refl, bad)
  without_product lacks.Memory never = never

  pub without_state : (why : ValueFault) → LacksState rows why → AsksNot (codes "blanks") rows why
  without_state lacks.Nothing none = no_state none
  without_state lacks.BadName never = absurd never
  without_state lacks.Memory never = never

  pub cards_without_batch : (why : ValueFault) → LacksName (codes "batch") rows why → AsksNot (codes "cards") rows why
  cards_without_batch lacks.Nothing none = no_cards none
  cards_without_batch lacks.BadName bad = inr (inl refl, bad)
  cards_without_batch lacks.Memory never = never

  pub sheet_without_batch : (why : ValueFault) → LacksName (codes "batch") rows why → AsksNot (codes "sheet") rows why
  sheet_without_batch lacks.Nothing none = no_sheet none
  sheet_without_batch lacks.BadName bad = inr (inr refl, bad)
  sheet_without_batch lacks.Memory never = never

  -- ---- a subcommand by its name

  -- A result for the text `word` is also a result for `name` if the two texts are equal.
  pub asked_as : (name word : Text) → name ≡ word → (r : Result Ask ValueFault) → IfOk r (Asks word rows) → IfOk r (Asks name rows)
  asked_as name word is r asks = subst (λ (n : Text). IfOk r (Asks n rows)) (sym is) asks

  pub unread_as : (name word : Text) → name ≡ word → (r : Result Ask ValueFault) → IfErr r (AsksNot word rows) → IfErr r (AsksNot name rows)
  unread_as name word is r not = subst (λ (n : Text). IfErr r (AsksNot n rows)) (sym is) not

  -- ---- the output form

  pub form_there : (name : Text) → name ≢ codes "sheet" → (r : Option Bool) → IfSome r (IsFlag (codes "json") rows) → IfSome r (IsForm name rows)
  form_there name other (Some on) flag = inr (other, flag)
  form_there name other None flag = tt

  pub no_form : (name : Text) → name ≢ codes "sheet" → ((on : Bool) → IsFlag (codes "json") rows on → ⊥) → (on : Bool) → IsForm name rows on → ⊥
  no_form name other none on (inl sheet) = other sheet.0
  no_form name other none on (inr flag) = none on flag.1
