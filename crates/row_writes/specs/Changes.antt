-- The texts of the statements that change or delete rows, their conditions, and their new values.
use Rattle.std.specs.Prelude.{List, ℕ, pos, [], ◌∷◌, codes}
use Rattle.sqlite.specs.Collation.TheVariants.{Binary}
use Rattle.sqlite.specs.declared.types.Value.TheVariants.{Int, Null}
use Rattle.sqlite.specs.Term.{Term, col, lit, op2}
use Rattle.sqlite_sql.specs.declared.ops.BinaryOp.TheVariants.{Compare}
use Rattle.sqlite_sql.specs.declared.ops.CompareOp.TheVariants.{Le}
use Rattle.sql_base.specs.Queries.{is_equal}

-- The first column after the rowid is the first parameter.
abbrev pub by_first_column : List Term
by_first_column = is_equal (col 1 1) (col 0 0) ∷ []

abbrev pub set_lot_text : List ℕ
set_lot_text = codes "UPDATE lot SET discarded = ?2 WHERE name = ?1"

abbrev pub set_lot_columns : List Term
set_lot_columns = col 1 0 ∷ col 1 0 ∷ col 1 1 ∷ col 1 2 ∷ col 1 3 ∷ col 1 4 ∷ col 0 1 ∷ []

abbrev pub set_totals_text : List ℕ
set_totals_text = codes "UPDATE batch SET waiting = ?2, running = ?3, failed = ?4, withdrawn = ?5, good = ?6, sessions = ?7, spoiled = ?8 WHERE id = ?1"

abbrev pub set_totals_columns : List Term
set_totals_columns =
    col 1 0 ∷ col 1 0 ∷ lit Null ∷ col 1 2 ∷ col 1 3 ∷ col 1 4 ∷ col 1 5 ∷ col 0 1 ∷ col 0 2 ∷ col 0 3 ∷ col 0 4 ∷ col 0 5 ∷ col 0 6 ∷ col 0 7 ∷ []

abbrev pub set_closed_text : List ℕ
set_closed_text = codes "UPDATE batch SET closed = 1 WHERE name = ?1"

-- The first column after the id is the first parameter.
abbrev pub by_second_column : List Term
by_second_column = is_equal (col 1 2) (col 0 0) ∷ []

abbrev pub set_closed_columns : List Term
set_closed_columns =
    col 1 0 ∷ col 1 0 ∷ lit Null ∷ col 1 2 ∷ col 1 3 ∷ col 1 4 ∷ lit (Int (pos 1)) ∷ col 1 6 ∷ col 1 7 ∷ col 1 8 ∷ col 1 9 ∷ col 1 10 ∷ col 1 11 ∷ col 1 12 ∷ []

abbrev pub set_raw_text : List ℕ
set_raw_text = codes "UPDATE batch SET raw = ?2 WHERE id = ?1"

abbrev pub set_raw_columns : List Term
set_raw_columns =
    col 1 0 ∷ col 1 0 ∷ lit Null ∷ col 1 2 ∷ col 1 3 ∷ col 0 1 ∷ col 1 5 ∷ col 1 6 ∷ col 1 7 ∷ col 1 8 ∷ col 1 9 ∷ col 1 10 ∷ col 1 11 ∷ col 1 12 ∷ []

abbrev pub set_record_text : List ℕ
set_record_text = codes "UPDATE record SET state = ?3, spoiled = ?4, remakes = ?5 WHERE batch = ?1 AND place = ?2"

-- The first two columns after the rowid are the first two parameters.
abbrev pub by_place : List Term
by_place = is_equal (col 1 1) (col 0 0) ∷ is_equal (col 1 2) (col 0 1) ∷ []

abbrev pub set_record_columns : List Term
set_record_columns = col 1 0 ∷ col 1 0 ∷ col 1 1 ∷ col 1 2 ∷ col 1 3 ∷ col 0 2 ∷ col 0 3 ∷ col 0 4 ∷ []

abbrev pub set_end_text : List ℕ
set_end_text = codes "UPDATE session SET state = 2, ended = 1 WHERE id = ?1"

abbrev pub set_end_columns : List Term
set_end_columns =
    col 1 0 ∷ col 1 0 ∷ lit Null ∷ col 1 2 ∷ col 1 3 ∷ col 1 4 ∷ col 1 5 ∷ lit (Int (pos 2)) ∷ lit (Int (pos 1)) ∷ col 1 8 ∷ col 1 9 ∷ col 1 10 ∷ col 1 11 ∷ col 1 12 ∷ []

abbrev pub drop_replies_text : List ℕ
drop_replies_text = codes "DELETE FROM reply WHERE client = ?1 AND number <= ?2"

-- The client is the first parameter, and the number is at most the second.
abbrev pub by_client_up_to : List Term
by_client_up_to = is_equal (col 1 1) (col 0 0) ∷ op2 (Compare Le Binary) (col 1 2) (col 0 1) ∷ []

abbrev pub drop_mark_text : List ℕ
drop_mark_text = codes "DELETE FROM mark WHERE client = ?1"

-- only the rowid
abbrev pub rowid_column : List Term
rowid_column = col 1 0 ∷ []
