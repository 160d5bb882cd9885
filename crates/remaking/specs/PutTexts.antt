-- The texts of the statements that insert whole rows, and the values that they insert.
use Rattle.std.specs.Prelude.{List, ℕ, [], ◌∷◌, codes}
use Rattle.sqlite.specs.declared.types.Value.TheVariants.{Null}
use Rattle.sqlite.specs.Term.{Term, col, lit}

abbrev pub put_lot_text : List ℕ
put_lot_text = codes "INSERT INTO lot (name, product, low_serial, amount, discarded) VALUES (?1, ?2, ?3, ?4, ?5)"

abbrev pub put_lot_terms : List Term
put_lot_terms = lit Null ∷ col 0 0 ∷ col 0 1 ∷ col 0 2 ∷ col 0 3 ∷ col 0 4 ∷ []

abbrev pub put_batch_text : List ℕ
put_batch_text = codes "INSERT INTO batch (id, name, product, raw, closed, waiting, running, failed, withdrawn, good, sessions, spoiled) VALUES (?1, ?2, ?3, ?4, ?5, ?6, ?7, ?8, ?9, ?10, ?11, ?12)"

abbrev pub put_batch_terms : List Term
put_batch_terms = col 0 0 ∷ lit Null ∷ col 0 1 ∷ col 0 2 ∷ col 0 3 ∷ col 0 4 ∷ col 0 5 ∷ col 0 6 ∷ col 0 7 ∷ col 0 8 ∷ col 0 9 ∷ col 0 10 ∷ col 0 11 ∷ []

abbrev pub put_record_text : List ℕ
put_record_text = codes "INSERT INTO record (batch, place, name, state, spoiled, remakes) VALUES (?1, ?2, ?3, ?4, ?5, ?6)"

abbrev pub put_record_terms : List Term
put_record_terms = lit Null ∷ col 0 0 ∷ col 0 1 ∷ col 0 2 ∷ col 0 3 ∷ col 0 4 ∷ col 0 5 ∷ []

abbrev pub put_session_text : List ℕ
put_session_text = codes "INSERT INTO session (id, machine, batch, place, serial, state, ended, words, app, segment, at_offset, block) VALUES (?1, ?2, ?3, ?4, ?5, ?6, ?7, ?8, ?9, ?10, ?11, ?12)"

abbrev pub put_session_terms : List Term
put_session_terms = col 0 0 ∷ lit Null ∷ col 0 1 ∷ col 0 2 ∷ col 0 3 ∷ col 0 4 ∷ col 0 5 ∷ col 0 6 ∷ col 0 7 ∷ col 0 8 ∷ col 0 9 ∷ col 0 10 ∷ col 0 11 ∷ []
