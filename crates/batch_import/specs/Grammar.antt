-- Relates positions and effects of bytes to the CSV reader of the crate `csv`.
use Rattle.std.specs.Prelude.{Bool, true, false}
use Rattle.csv.specs.declared.parser.Action.{Action}
use Rattle.csv.specs.declared.parser.Action.TheVariants as act
use Rattle.csv.specs.declared.parser.State.{State}
use Rattle.csv.specs.declared.parser.State.TheVariants as st
use Rattle.batch_import.specs.declared.grammar.Effect.{Effect}
use Rattle.batch_import.specs.declared.grammar.Effect.TheVariants as effect
use Rattle.batch_import.specs.declared.grammar.Place.{Place}
use Rattle.batch_import.specs.declared.grammar.Place.TheVariants as place

-- the state of the CSV reader for a position
abbrev pub state_of : Place → State
state_of place.Between = st.StartRecord
state_of place.AfterCr = st.AfterCr
state_of place.FieldStart = st.StartField
state_of place.InField = st.InField
state_of place.InQuotes = st.InQuoted
state_of place.AfterQuote = st.AfterQuote

-- the effect of a byte with this action of the CSV reader
abbrev pub effect_of : Action → Effect
effect_of act.Skip = effect.Skip
effect_of act.Copy = effect.Keep
effect_of act.EndField = effect.EndField
effect_of act.EndRecord = effect.EndRow

abbrev pub is_row_end : Effect → Bool
is_row_end effect.Skip = false
is_row_end effect.Keep = false
is_row_end effect.EndField = false
is_row_end effect.EndRow = true
