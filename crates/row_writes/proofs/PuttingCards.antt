-- The effect of each INSERT of a session or a blank on the rows.
use Rattle.std.proofs.Common.{ℕ, List, [], ◌∷◌, drop, map, Ok, refl}
use Rattle.sqlite.specs.declared.types.Value.TheVariants.{Text}
use Rattle.sqlite.specs.Order.{Row}
use Rattle.sqlite.specs.State.{Executes, State}
use Rattle.sql_base.proofs.Values.{cast_int, cast_null}
use Rattle.sql_tables.specs.Tables.{blank_table, session_table}
use Rattle.table_rows.specs.declared.writing.RecordPlace.{RecordPlace}
use Rattle.table_rows.specs.After.{new_session}
use Rattle.table_rows.specs.Tables.{StoredBlank, with_blank, with_session}
use Rattle.sql_rows.specs.Encoding.{blank_row, flag, number, session_row}
use Rattle.sql_rows.specs.Image.{Moves, by_rowid}
use Rattle.sql_rows.proofs.Filling.{row_put_under}
use Rattle.row_writes.specs.Texts.{add_blank_terms, add_blank_text, add_session_terms, add_session_text}
use Rattle.row_writes.proofs.Adding.{added}
use Rattle.row_writes.proofs.Meanings.{adds_mean}

module _ (id : ℕ) (p : RecordPlace) (machine : List ℕ) (blank : ℕ) where
  abbrev pub session_values : Row
  session_values = number id ∷ Text machine ∷ number p.batch ∷ number p.place ∷ number blank ∷ []

  abbrev put : Row
  put = session_row (new_session id p machine blank)

  pub session_added : (old new : State) (count : ℕ) → Executes add_session_text session_values old new (Ok count) → Moves (with_session (new_session id p machine blank)) old.now new.now
  session_added old new count ran t image =
      let rows = map session_row t.sessions in
      added add_session_text session_values 6 session_table add_session_terms 13 adds_mean.sessions refl refl refl (put ∷ []) refl (simp (cast_int, cast_null)) old new count ran t (with_session (new_session id p machine blank) t)
      (by_rowid session_table rows) (by_rowid session_table (put ∷ rows)) refl refl refl refl refl refl (row_put_under session_table id (drop 1 put) rows old new) image

abbrev pub blank_values : StoredBlank → Row
blank_values b = number b.serial ∷ Text b.lot ∷ number (flag b.discarded) ∷ []

pub blank_added : (old new : State) (b : StoredBlank) (count : ℕ) → Executes add_blank_text (blank_values b) old new (Ok count) → Moves (with_blank b) old.now new.now
blank_added old new b count ran t image =
    let rows = map blank_row t.blanks in
    added add_blank_text (blank_values b) 8 blank_table add_blank_terms 4 adds_mean.blanks refl refl refl (blank_row b ∷ []) refl (simp (cast_int, cast_null)) old new count ran t (with_blank b t)
    (by_rowid blank_table rows) (by_rowid blank_table (blank_row b ∷ rows)) refl refl refl refl refl refl (row_put_under blank_table b.serial (drop 1 (blank_row b)) rows old new) image
