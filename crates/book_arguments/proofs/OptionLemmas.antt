-- The values of options with a text and of flags, and the meaning of a missing value.
use Rattle.std.proofs.Common.{◌≡◌, ◌∙◌, Bool, List, true, false, refl, codes, Option, None, Some, sym, ap, option_map}
use Rattle.std.specs.Prelude.{IfSome}
use Rattle.std.specs.Borrow.{Bor}
use Rattle.std.specs.Str.Parse.{ParsesBool}
use Rattle.clap.specs.Words.{Row, Text, first_of, first_value, one_text, rows_of}
use Rattle.clap.specs.Matches.{ReadsOne}
use Rattle.clap.specs.declared.parser.matches.Found.{Found}
use Rattle.clap.proofs.WalkLemmas.{first_value-rows, one_text-rows}
use Rattle.arguments.specs.Words.{IsFlag}
use Rattle.book_lines.specs.Blanks.{state_word}
use Rattle.book_lines.specs.declared.blank_state.BlankState.{BlankState}
use Rattle.book_arguments.specs.Words.{HasState}

-- ---- a text

module _ (f : Found) (option : Text) (o : Option (Bor Text)) (given : option_map (λ s. s.now) o ≡ first_value f option) where
  pub text_there : (s : Bor Text) → o ≡ Some s → first_of option (rows_of f) ≡ Some s.now
  text_there s some = sym (first_value-rows f option) ∙ sym given ∙ ap (option_map (λ s. s.now)) some

  pub none_there : o ≡ None → first_of option (rows_of f) ≡ None
  none_there none = sym (first_value-rows f option) ∙ sym given ∙ ap (option_map (λ s. s.now)) none

pub is_none : {o : Option Text} → o ≡ None → (t : Text) → o ≡ Some t → ⊥
is_none none t some = let bad : None ≡ Some t = sym none ∙ some in cc

-- ---- a state

pub no_state : (rows : List Row) (word : Text) → first_of (codes "state") rows ≡ Some word → ((state : BlankState) → word ≡ state_word state → ⊥)
    → (state : Option BlankState) → HasState rows state → ⊥
no_state rows word there none None has = let bad : None ≡ Some word = sym has ∙ there in cc
no_state rows word there none (Some state) has = none state (let same : Some word ≡ Some (state_word state) = sym there ∙ has in cc)

-- ---- a flag

module _ (E : Type 0) (name : Text) (f : Found) where
  flag_is : (r : Option Bool) → (one_text f name ≡ None → r ≡ None) → ((t : Text) → one_text f name ≡ Some t → ReadsOne (ParsesBool {E = E}) t r)
      → (on : Bool) → r ≡ Some on → IsFlag name (rows_of f) on
  flag_is r none some on read = at (one_text f name) refl r none some on read
    where
      at : (o : Option Text) → one_text f name ≡ o → (r : Option Bool) → (one_text f name ≡ None → r ≡ None)
          → ((t : Text) → one_text f name ≡ Some t → ReadsOne (ParsesBool {E = E}) t r) → (on : Bool) → r ≡ Some on → IsFlag name (rows_of f) on
      at None is r none some on read = let gone = none is in cc
      at (Some t) is (Some true) none some true read = sym (one_text-rows f name) ∙ is ∙ ap Some (some t is)
      at (Some t) is (Some false) none some false read = sym (one_text-rows f name) ∙ is ∙ ap Some (some t is)
      at (Some t) is (Some true) none some false read = cc
      at (Some t) is (Some false) none some true read = cc
      at (Some t) is None none some on read = cc

  -- If the getter of a flag returns a value, it is the value of the flag.
  pub flag_there : (r : Option Bool) → (one_text f name ≡ None → r ≡ None) → ((t : Text) → one_text f name ≡ Some t → ReadsOne (ParsesBool {E = E}) t r)
      → IfSome r (IsFlag name (rows_of f))
  flag_there (Some on) none some = flag_is (Some on) none some on refl
  flag_there None none some = tt

  pub no_flag : (r : Option Bool) → ((t : Text) → one_text f name ≡ Some t → ReadsOne (ParsesBool {E = E}) t r) → r ≡ None → (on : Bool) → IsFlag name (rows_of f) on → ⊥
  no_flag None some none true has = (some (codes "true") (one_text-rows f name ∙ has)).1.0 refl
  no_flag None some none false has = (some (codes "false") (one_text-rows f name ∙ has)).1.1 refl
  no_flag (Some b) some none on has = cc
