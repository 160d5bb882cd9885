-- The statements that read replies, batches, lots and charged blanks, and count products: their
-- texts, columns and conditions.
use Rattle.std.specs.Prelude.{List, ℕ, pos, [], ◌∷◌, codes}
use Rattle.sqlite.specs.Collation.TheVariants.{Binary}
use Rattle.sqlite.specs.declared.types.Value.TheVariants.{Int}
use Rattle.sqlite.specs.Term.{Term, col, lit, op2}
use Rattle.sqlite_sql.specs.declared.ops.BinaryOp.TheVariants.{Compare}
use Rattle.sqlite_sql.specs.declared.ops.CompareOp.TheVariants.{Le}
use Rattle.sql_base.specs.Queries.{is_equal}

-- ---- replies

abbrev pub kept_text : List ℕ
kept_text = codes "SELECT ask, status, body FROM reply WHERE client = ?1 AND number = ?2"

abbrev pub kept_columns : List Term
kept_columns = col 1 3 ∷ col 1 4 ∷ col 1 5 ∷ []

-- the condition that the first two columns are the two parameters
abbrev pub by_two_columns : List Term
by_two_columns = is_equal (col 1 1) (col 0 0) ∷ is_equal (col 1 2) (col 0 1) ∷ []

-- ---- batches

abbrev pub batch_id_text : List ℕ
batch_id_text = codes "SELECT id FROM batch WHERE name = ?1"

abbrev pub id_columns : List Term
id_columns = col 1 0 ∷ []

-- the condition that the name, in the first column after the id, is the first parameter
abbrev pub by_batch_name : List Term
by_batch_name = is_equal (col 1 2) (col 0 0) ∷ []

abbrev pub batch_name_text : List ℕ
batch_name_text = codes "SELECT id, name FROM batch WHERE ?1 <= id AND (id = ?1) = 1 ORDER BY id LIMIT 1"

-- the column after the id
abbrev pub batch_name_columns : List Term
batch_name_columns = col 1 2 ∷ []

-- the condition that the id is at least the first parameter, and equal to it
abbrev pub by_id_in_order : List Term
by_id_in_order = op2 (Compare Le Binary) (col 0 0) (col 1 0) ∷ is_equal (is_equal (col 1 0) (col 0 0)) (lit (Int (pos 1))) ∷ []

-- the condition that the id is the first parameter
abbrev pub by_id : List Term
by_id = is_equal (col 1 0) (col 0 0) ∷ []

abbrev pub batch_head_text : List ℕ
batch_head_text = codes "SELECT id, product, closed, waiting, running, failed, withdrawn, good, sessions, spoiled FROM batch WHERE name = ?1"

abbrev pub head_columns : List Term
head_columns = col 1 0 ∷ col 1 3 ∷ col 1 5 ∷ col 1 6 ∷ col 1 7 ∷ col 1 8 ∷ col 1 9 ∷ col 1 10 ∷ col 1 11 ∷ col 1 12 ∷ []

abbrev pub batch_by_name_text : List ℕ
batch_by_name_text = codes "SELECT id, product, closed FROM batch WHERE name = ?1"

abbrev pub batch_at_columns : List Term
batch_at_columns = col 1 0 ∷ col 1 3 ∷ col 1 5 ∷ []

abbrev pub batch_has_text : List ℕ
batch_has_text = codes "SELECT id FROM batch WHERE name = ?1 AND raw = ?2"

-- the condition that the name and the bytes are the two parameters
abbrev pub by_bytes : List Term
by_bytes = is_equal (col 1 2) (col 0 0) ∷ is_equal (col 1 4) (col 0 1) ∷ []

-- ---- lots

-- the columns after the first serial
abbrev pub more_lot_columns : List Term
more_lot_columns = col 1 4 ∷ col 1 1 ∷ col 1 2 ∷ []

abbrev pub lot_columns : List Term
lot_columns = col 1 3 ∷ more_lot_columns

abbrev pub lot_row_columns : List Term
lot_row_columns = col 1 3 ∷ col 1 4 ∷ col 1 1 ∷ col 1 2 ∷ col 1 5 ∷ []

abbrev pub lot_text : List ℕ
lot_text = codes "SELECT low_serial, amount, name, product, discarded FROM lot WHERE name = ?1"

abbrev pub lots_text : List ℕ
lots_text = codes "SELECT low_serial, amount, name, product FROM lot"

abbrev pub lots_of_text : List ℕ
lots_of_text = codes "SELECT low_serial, amount, name, product, discarded FROM lot WHERE product = ?1"

-- the condition that the second column is the first parameter
abbrev pub by_second_column : List Term
by_second_column = is_equal (col 1 2) (col 0 0) ∷ []

abbrev pub last_lot_text : List ℕ
last_lot_text = codes "SELECT low_serial, amount, name, product FROM lot WHERE low_serial <= ?1 ORDER BY low_serial DESC LIMIT 1"

-- the condition that the first serial is at most the first parameter
abbrev pub by_low_serial : List Term
by_low_serial = op2 (Compare Le Binary) (col 1 3) (col 0 0) ∷ []

-- ---- the batches of a product, charged blanks, and names to count

abbrev pub batches_of_text : List ℕ
batches_of_text = codes "SELECT id, product, closed, waiting, running, failed, withdrawn, good, sessions, spoiled FROM batch WHERE product = ?1"

-- the condition that the product of the batch is the first parameter
abbrev pub by_batch_product : List Term
by_batch_product = is_equal (col 1 3) (col 0 0) ∷ []

abbrev pub charged_text : List ℕ
charged_text = codes "SELECT serial FROM blank WHERE serial = ?1"

abbrev pub products_text : List ℕ
products_text = codes "SELECT name FROM product"

abbrev pub lot_names_text : List ℕ
lot_names_text = codes "SELECT name FROM lot"

abbrev pub first_column : List Term
first_column = col 1 1 ∷ []

abbrev pub last_batch_text : List ℕ
last_batch_text = codes "SELECT id FROM batch ORDER BY id DESC LIMIT 1"
