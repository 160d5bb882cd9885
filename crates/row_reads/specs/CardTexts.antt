-- The statements that read sessions, records and groupings: their texts, columns and conditions.
use Rattle.std.specs.Prelude.{List, ℕ, pos, negsuc, [], ◌∷◌, codes}
use Rattle.sqlite.specs.declared.types.Value.TheVariants.{Int}
use Rattle.sqlite.specs.Term.{Term, col, lit}
use Rattle.sql_base.specs.Queries.{is_equal}

-- ---- sessions

abbrev pub session_text : List ℕ
session_text = codes "SELECT machine, batch, place, state, words, app, segment, at_offset, block FROM session WHERE id = ?1"

abbrev pub session_columns : List Term
session_columns = col 1 2 ∷ col 1 3 ∷ col 1 4 ∷ col 1 6 ∷ col 1 8 ∷ col 1 9 ∷ col 1 10 ∷ col 1 11 ∷ col 1 12 ∷ []

-- the condition that the rowid is the first parameter
abbrev pub by_id : List Term
by_id = is_equal (col 1 0) (col 0 0) ∷ []

abbrev pub running_text : List ℕ
running_text = codes "SELECT id FROM session WHERE machine = ?1 AND state = 0"

abbrev pub running_columns : List Term
running_columns = col 1 0 ∷ []

-- the condition that the machine is the first parameter and the state is 0 (running)
abbrev pub by_running_machine : List Term
by_running_machine = is_equal (col 1 2) (col 0 0) ∷ is_equal (col 1 6) (lit (Int (pos 0))) ∷ []

abbrev pub last_session_text : List ℕ
last_session_text = codes "SELECT id FROM session ORDER BY id DESC LIMIT 1"

abbrev pub good_text : List ℕ
good_text = codes "SELECT place, serial FROM session WHERE batch = ?1 AND state = 1"

abbrev pub good_columns : List Term
good_columns = col 1 4 ∷ col 1 5 ∷ []

-- the condition that the batch is the first parameter and the state is 1 (good)
abbrev pub by_good_batch : List Term
by_good_batch = is_equal (col 1 3) (col 0 0) ∷ is_equal (col 1 6) (lit (Int (pos 1))) ∷ []

-- ---- records

abbrev pub record_named_text : List ℕ
record_named_text = codes "SELECT place, name, state, spoiled, remakes FROM record WHERE batch = ?1 AND name = ?2"

abbrev pub record_at_text : List ℕ
record_at_text = codes "SELECT place, name, state, spoiled, remakes FROM record WHERE batch = ?1 AND place = ?2"

abbrev pub record_columns : List Term
record_columns = col 1 2 ∷ col 1 3 ∷ col 1 4 ∷ col 1 5 ∷ col 1 6 ∷ []

-- the condition that the batch is the first parameter and the name is the second
abbrev pub by_batch_and_name : List Term
by_batch_and_name = is_equal (col 1 1) (col 0 0) ∷ is_equal (col 1 3) (col 0 1) ∷ []

abbrev pub records_text : List ℕ
records_text = codes "SELECT place, name, state, spoiled, remakes FROM record WHERE batch = ?1 ORDER BY place"

abbrev pub waiting_text : List ℕ
waiting_text = codes "SELECT place, name, state, spoiled, remakes FROM record WHERE batch = ?1 AND state = 0 ORDER BY place LIMIT 1"

-- the columns after the first one
abbrev pub more_record_columns : List Term
more_record_columns = col 1 3 ∷ col 1 4 ∷ col 1 5 ∷ col 1 6 ∷ []

-- the condition that the batch is the first parameter
abbrev pub by_batch : List Term
by_batch = is_equal (col 1 1) (col 0 0) ∷ []

-- the condition that the batch is the first parameter and the state is 0 (waiting)
abbrev pub by_waiting_batch : List Term
by_waiting_batch = is_equal (col 1 1) (col 0 0) ∷ is_equal (col 1 4) (lit (Int (pos 0))) ∷ []

-- ---- groupings

abbrev pub groupings_text : List ℕ
groupings_text = codes "SELECT line, aid, rank, enc, tol FROM grouping2 WHERE batch = ?1 AND place = ?2 ORDER BY line"

-- the columns after the first one
abbrev pub more_grouping_columns : List Term
more_grouping_columns = col 1 4 ∷ col 1 5 ∷ col 1 6 ∷ col 1 7 ∷ []

-- the condition that the batch is the first parameter and the position is the second
abbrev pub by_batch_and_place : List Term
by_batch_and_place = is_equal (col 1 1) (col 0 0) ∷ is_equal (col 1 3) (col 0 1) ∷ []

abbrev pub coded_text : List ℕ
coded_text = codes "SELECT line, coded FROM grouping2 WHERE batch = ?1 AND place = ?2 AND aid = ?3 AND rank = ?4 ORDER BY line"

-- the column after the row number
abbrev pub coded_columns : List Term
coded_columns = col 1 8 ∷ []

-- the condition that the batch, the position, the application identifier and the rank are the four
-- parameters
abbrev pub by_segment : List Term
by_segment = is_equal (col 1 1) (col 0 0) ∷ is_equal (col 1 3) (col 0 1) ∷ is_equal (col 1 4) (col 0 2) ∷ is_equal (col 1 5) (col 0 3) ∷ []

abbrev pub grouping_count_text : List ℕ
grouping_count_text = codes "SELECT line FROM grouping2 WHERE batch = ?1"

-- ---- no limit, and the limit 1

abbrev pub no_limit : Term
no_limit = lit (Int (negsuc 0))

abbrev pub limit_one : Term
limit_one = lit (Int (pos 1))
