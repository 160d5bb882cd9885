-- Proves that the fields of a row are kept and counted as they end.
use Rattle.std.proofs.Common.{◌≡◌, ◌≤◌, ◌<◌, ◌+◌, ℕ, true, false, List, [], ◌∷◌, ◌++◌, length, map, get_or, take, refl, sym, ap, ◌∙◌, arith, Vec}
use Rattle.std.specs.Global.{Global}
use Rattle.std.proofs.lemmas.List.{get_or-map, get_or-take, get_or_past, length-map, length-take}
use Rattle.std.proofs.lemmas.Option.{unwrap_or-slice_get}
use Rattle.csv.specs.Machine.{ends_at_end, next_record, step}
use Rattle.csv.specs.Reading.{default_config}
use Rattle.csv.specs.declared.parser.State.{State}
use Rattle.batch_import.specs.Fields.{field}
use Rattle.batch_import.specs.Grammar.{effect_of}
use Rattle.batch_import.specs.declared.grammar.Effect.TheVariants as effect
use Rattle.import_causes.specs.RowTexts.{fields_read}
use Rattle.import_causes.proofs.GrammarLemmas.{by-field, by-keep, by-row, by-skip, read-byte}

-- ---- the kept fields

-- the bytes of the fields
abbrev pub bytes_of : List (Vec ℕ Global) → List (List ℕ)
bytes_of kept = map (λ f. f.items) kept

module _ (kept : List (Vec ℕ Global)) (fields : List (List ℕ)) (is : bytes_of kept ≡ take 6 fields) where
  kept-length : length kept ≡ length (take 6 fields)
  kept-length = sym (length-map kept (λ f. f.items)) ∙ ap length is

  pub field-kept : (i : ℕ) (v : Vec ℕ Global) → i < 6 → i < length kept → v ≡ get_or kept i v → v.items ≡ field fields i
  field-kept i v six within at =
      ap (λ f. f.items) at ∙ sym (get_or-map (λ f. f.items) kept i v [] within) ∙ ap (λ (xs : List (List ℕ)). get_or xs i []) is
      ∙ get_or-take 6 fields i [] six ∙ sym (unwrap_or-slice_get fields i [])

  pub field-missing : (i : ℕ) → i < 6 → length kept ≤ i → [] ≡ field fields i
  field-missing i six past =
      sym (unwrap_or-slice_get fields i [] ∙ get_or_past fields i [] (omega (arith, kept-length, length-take 6 fields)))

-- ---- one byte

module _ (s now : State) (fields : List (List ℕ)) (field : List ℕ) (c : ℕ) (rest : List ℕ) (stands : now ≡ (step default_config s c).0) where
  pub byte-skip : effect.Skip ≡ effect_of (step default_config s c).1
      → next_record default_config s fields field (c ∷ rest) ≡ next_record default_config now fields field rest
  byte-skip is = read-byte s fields field c rest ∙ by-skip fields field c rest (step default_config s c) is
      ∙ ap (λ (t : State). next_record default_config t fields field rest) (sym stands)

  pub byte-keep : effect.Keep ≡ effect_of (step default_config s c).1
      → next_record default_config s fields field (c ∷ rest) ≡ next_record default_config now fields (field ++ c ∷ []) rest
  byte-keep is = read-byte s fields field c rest ∙ by-keep fields field c rest (step default_config s c) is
      ∙ ap (λ (t : State). next_record default_config t fields (field ++ c ∷ []) rest) (sym stands)

  pub byte-field : effect.EndField ≡ effect_of (step default_config s c).1
      → next_record default_config s fields field (c ∷ rest) ≡ next_record default_config now (fields ++ field ∷ []) [] rest
  byte-field is = read-byte s fields field c rest ∙ by-field fields field c rest (step default_config s c) is
      ∙ ap (λ (t : State). next_record default_config t (fields ++ field ∷ []) [] rest) (sym stands)

  pub byte-row : effect.EndRow ≡ effect_of (step default_config s c).1
      → fields_read (next_record default_config s fields field (c ∷ rest)) ≡ fields ++ field ∷ []
  byte-row is = ap fields_read (read-byte s fields field c rest ∙ by-row fields field c rest (step default_config s c) is)

-- ---- the end of the text

pub end-row : (s : State) (fields : List (List ℕ)) (field : List ℕ) → ends_at_end s ≡ true
    → fields_read (next_record default_config s fields field []) ≡ fields ++ field ∷ []
unfolding next_record
end-row s fields field is = rw is refl

pub end-none : (s : State) (fields : List (List ℕ)) (field : List ℕ) → ends_at_end s ≡ false
    → fields_read (next_record default_config s fields field []) ≡ []
unfolding next_record
end-none s fields field is = rw is refl
