-- Defines the first CSV record of a file with too many fields, without the contents of the fields
-- (helper definitions).
use Rattle.std.specs.Prelude.{◌≡◌, ◌<◌, ◌+◌, ℕ, List, [], ◌∷◌, length, nat_lt, slice_get, Option, Some, None, if◌then◌else◌}
use Rattle.csv.specs.Machine.{step}
use Rattle.csv.specs.Reading.{default_config}
use Rattle.csv.specs.declared.parser.State.{State}
use Rattle.batch_import.specs.Grammar.{effect_of}
use Rattle.batch_import.specs.declared.grammar.Effect.{Effect}
use Rattle.batch_import.specs.declared.grammar.Effect.TheVariants as effect

-- the CSV record with index `n` has more than six fields
abbrev pub IsWideAt : List (List (List ℕ)) → ℕ → Type 0
IsWideAt rows n = (fields : List (List ℕ)) × (slice_get rows n ≡ Some fields) × (6 < length fields)

-- no allocation has failed, and the CSV record to come with index `n` has more than six fields
abbrev pub HasWideAt : Option (List (List (List ℕ))) → ℕ → Type 0
HasWideAt left n = (rows : List (List (List ℕ))) × (left ≡ Some rows) × IsWideAt rows n

-- the result after a byte with an effect; before the byte, `records` CSV records and `fields`
-- fields of the current one had ended
abbrev pub found_after : Effect → ℕ → ℕ → (ℕ → ℕ → Option ℕ) → Option ℕ
found_after effect.Skip records fields more = more records fields
found_after effect.Keep records fields more = more records fields
found_after effect.EndField records fields more = if nat_lt 4 fields then Some records else more records (fields + 1)
found_after effect.EndRow records fields more = more (records + 1) 0

-- the number of CSV records before the first one with more than six fields, from the state `s` on
unfoldable pub wide_after : State → ℕ → ℕ → List ℕ → Option ℕ
wide_after s records fields [] = None
wide_after s records fields (c ∷ rest) =
    found_after (effect_of (step default_config s c).1) records fields (λ records fields. wide_after (step default_config s c).0 records fields rest)
