-- The texts of the statements that insert rows, with the values that they insert, and of the
-- statement that changes a session.
use Rattle.std.specs.Prelude.{List, ℕ, pos, [], ◌∷◌, codes}
use Rattle.sqlite.specs.declared.types.Value.TheVariants.{Int, Null}
use Rattle.sqlite.specs.Query.{Query}
use Rattle.sqlite.specs.Term.{Term, col, lit}
use Rattle.sql_base.specs.Queries.{from_tree, is_equal}

abbrev pub add_product_text : List ℕ
add_product_text = codes "INSERT INTO product (name, max, low, checked) VALUES (?1, ?2, ?3, ?4)"

abbrev pub add_product_terms : List Term
add_product_terms = lit Null ∷ col 0 0 ∷ col 0 1 ∷ col 0 2 ∷ col 0 3 ∷ []

abbrev pub add_reply_text : List ℕ
add_reply_text = codes "INSERT INTO reply (client, number, ask, status, body) VALUES (?1, ?2, ?3, ?4, ?5)"

abbrev pub add_reply_terms : List Term
add_reply_terms = lit Null ∷ col 0 0 ∷ col 0 1 ∷ col 0 2 ∷ col 0 3 ∷ col 0 4 ∷ []

abbrev pub add_word_text : List ℕ
add_word_text = codes "INSERT INTO word (session, place, sw) VALUES (?1, ?2, ?3)"

abbrev pub add_word_terms : List Term
add_word_terms = lit Null ∷ col 0 0 ∷ col 0 1 ∷ col 0 2 ∷ []

abbrev pub set_session_text : List ℕ
set_session_text = codes "UPDATE session SET state = ?2, words = ?3, app = ?4, segment = ?5, at_offset = ?6, block = ?7 WHERE id = ?1"

-- The rowid is the first parameter.
abbrev pub by_id : List Term
by_id = is_equal (col 1 0) (col 0 0) ∷ []

abbrev pub set_session_columns : List Term
set_session_columns =
    col 1 0 ∷ col 1 0 ∷ lit Null ∷ col 1 2 ∷ col 1 3 ∷ col 1 4 ∷ col 1 5 ∷ col 0 1 ∷ col 1 7 ∷ col 0 2 ∷ col 0 3 ∷ col 0 4 ∷ col 0 5 ∷ col 0 6 ∷ []

abbrev pub set_session_query : Query
set_session_query = from_tree 12 by_id set_session_columns

abbrev pub add_lot_text : List ℕ
add_lot_text = codes "INSERT INTO lot (name, product, low_serial, amount, discarded) VALUES (?1, ?2, ?3, ?4, 0)"

abbrev pub add_lot_terms : List Term
add_lot_terms = lit Null ∷ col 0 0 ∷ col 0 1 ∷ col 0 2 ∷ col 0 3 ∷ lit (Int (pos 0)) ∷ []

abbrev pub add_remake_text : List ℕ
add_remake_text = codes "INSERT INTO remake (batch, place, turn) VALUES (?1, ?2, ?3)"

abbrev pub add_remake_terms : List Term
add_remake_terms = lit Null ∷ col 0 0 ∷ col 0 1 ∷ col 0 2 ∷ []

abbrev pub add_mark_text : List ℕ
add_mark_text = codes "INSERT INTO mark (client, upto) VALUES (?1, ?2)"

abbrev pub add_mark_terms : List Term
add_mark_terms = lit Null ∷ col 0 0 ∷ col 0 1 ∷ []

abbrev pub add_session_text : List ℕ
add_session_text = codes "INSERT INTO session (id, machine, batch, place, serial, state, ended, words, app, segment, at_offset, block) VALUES (?1, ?2, ?3, ?4, ?5, 0, 0, 0, 0, 0, 0, 0)"

abbrev pub add_session_terms : List Term
add_session_terms =
    col 0 0 ∷ lit Null ∷ col 0 1 ∷ col 0 2 ∷ col 0 3 ∷ col 0 4 ∷ lit (Int (pos 0)) ∷ lit (Int (pos 0)) ∷ lit (Int (pos 0)) ∷ lit (Int (pos 0)) ∷ lit (Int (pos 0)) ∷ lit (Int (pos 0)) ∷ lit (Int (pos 0)) ∷ []

abbrev pub add_blank_text : List ℕ
add_blank_text = codes "INSERT INTO blank (serial, lot, kind) VALUES (?1, ?2, ?3)"

abbrev pub add_blank_terms : List Term
add_blank_terms = col 0 0 ∷ lit Null ∷ col 0 1 ∷ col 0 2 ∷ []
