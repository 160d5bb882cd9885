-- Proves the effect of one byte on the row that is read next.
use Rattle.std.proofs.Common.{◌≡◌, ℕ, true, false, List, [], ◌∷◌, ◌++◌, Some, refl}
use Rattle.std.specs.Prelude.{Option, if◌then◌else◌}
use Rattle.csv.specs.Machine.{Read, field_after, fields_after, is_end, next_record, step}
use Rattle.csv.specs.Reading.{default_config}
use Rattle.csv.specs.declared.parser.Action.{Action}
use Rattle.csv.specs.declared.parser.Action.TheVariants as act
use Rattle.csv.specs.declared.parser.State.{State}
use Rattle.batch_import.specs.Grammar.{effect_of, is_row_end}
use Rattle.batch_import.specs.declared.grammar.Effect.TheVariants as effect

-- a byte ends a row if the CSV reader ends a record
pub ends-same : (a : Action) → is_row_end (effect_of a) ≡ is_end a
ends-same act.Skip = refl
ends-same act.Copy = refl
ends-same act.EndField = refl
ends-same act.EndRecord = refl

-- the row that is read after a byte with the state and the action `r`
abbrev pub read_by : List (List ℕ) → List ℕ → ℕ → List ℕ → State × Action → Option Read
read_by fields field c rest r =
    if is_end r.1 then Some (fields_after r.1 fields field, r.0, rest)
    else next_record default_config r.0 (fields_after r.1 fields field) (field_after r.1 c field) rest

pub read-byte : (s : State) (fields : List (List ℕ)) (field : List ℕ) (c : ℕ) (rest : List ℕ)
    → next_record default_config s fields field (c ∷ rest) ≡ read_by fields field c rest (step default_config s c)
unfolding next_record
read-byte s fields field c rest = refl

module _ (fields : List (List ℕ)) (field : List ℕ) (c : ℕ) (rest : List ℕ) where
  pub by-skip : (r : State × Action) → effect.Skip ≡ effect_of r.1 → read_by fields field c rest r ≡ next_record default_config r.0 fields field rest
  by-skip (s, act.Skip) is = refl
  by-skip (s, act.Copy) is = absurd (cc)
  by-skip (s, act.EndField) is = absurd (cc)
  by-skip (s, act.EndRecord) is = absurd (cc)

  pub by-keep : (r : State × Action) → effect.Keep ≡ effect_of r.1 → read_by fields field c rest r ≡ next_record default_config r.0 fields (field ++ c ∷ []) rest
  by-keep (s, act.Skip) is = absurd (cc)
  by-keep (s, act.Copy) is = refl
  by-keep (s, act.EndField) is = absurd (cc)
  by-keep (s, act.EndRecord) is = absurd (cc)

  pub by-field : (r : State × Action) → effect.EndField ≡ effect_of r.1 → read_by fields field c rest r ≡ next_record default_config r.0 (fields ++ field ∷ []) [] rest
  by-field (s, act.Skip) is = absurd (cc)
  by-field (s, act.Copy) is = absurd (cc)
  by-field (s, act.EndField) is = refl
  by-field (s, act.EndRecord) is = absurd (cc)

  pub by-row : (r : State × Action) → effect.EndRow ≡ effect_of r.1 → read_by fields field c rest r ≡ Some (fields ++ field ∷ [], r.0, rest)
  by-row (s, act.Skip) is = absurd (cc)
  by-row (s, act.Copy) is = absurd (cc)
  by-row (s, act.EndField) is = absurd (cc)
  by-row (s, act.EndRecord) is = refl

  pub by-more : (r : State × Action) → is_end r.1 ≡ false
      → read_by fields field c rest r ≡ next_record default_config r.0 (fields_after r.1 fields field) (field_after r.1 c field) rest
  by-more r is = rw is refl

  pub by-end : (r : State × Action) → is_end r.1 ≡ true → read_by fields field c rest r ≡ Some (fields_after r.1 fields field, r.0, rest)
  by-end r is = rw is refl
