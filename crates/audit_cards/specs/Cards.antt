-- The state of a card after the status words of its session.
use Rattle.std.specs.Prelude.{◌≡◌, ℕ, Bool, List, Some, map}
use Rattle.std.specs.List.{enumerate_from}
use Rattle.store_data.specs.declared.cursor.Cursor.{Cursor}
use Rattle.store_data.specs.Cursor.{cursor_at}
use Rattle.store_data.specs.Sequence.{Plan, commands_of}
use Rattle.job_facts.specs.Sound.{AreWords}
use Rattle.job_facts.specs.States.{going, last_stops}
use Rattle.table_rows.specs.Tables.{StoredWord}

-- the status words of rows of `word`
abbrev pub status_words : List StoredWord → List ℕ
status_words words = map (λ (w : StoredWord). w.sw) words

-- A session with the plan `plan` can have the status words `words`. They leave its card at the
-- cursor `cursor`, and `stops` is true if the last of them spoils the session.
pub record Leaves (plan : Plan) (words : List ℕ) (cursor : Cursor) (stops : Bool) : Type 0 where
  pub words_are : AreWords (commands_of plan) words
  pub stops_is : last_stops (commands_of plan) words ≡ stops
  pub at : cursor_at plan (going (commands_of plan) words) ≡ Some cursor

-- rows with these status words for session `id`, with the places 0, 1, ..
abbrev pub words_placed : ℕ → List StoredWord → List StoredWord
words_placed id words = map (λ (w : ℕ × ℕ). record { session = id; place = w.0; sw = w.1 }) (enumerate_from 0 (status_words words))

-- a row with the status word of `w`, for session `id` at the place `place`
abbrev pub word_at : ℕ → ℕ → StoredWord → StoredWord
word_at id place w = record { session = id; place = place; sw = w.sw }
