-- The values of rows that queries return.
use Rattle.std.specs.Prelude.{◌≡◌, ◌+◌, ◌<◌, ◌^◌, ℕ, ⊤, Bool, true, false, List, [], ◌∷◌, Option, Some, None}
use Rattle.sqlite.specs.declared.types.Value.{Value}
use Rattle.sqlite.specs.declared.types.Value.TheVariants.{Blob, Text}
use Rattle.sqlite.specs.Order.{Row, column}
use Rattle.store_data.specs.declared.row.Product.{Product}
use Rattle.job_facts.specs.declared.rows.BatchTotals.{BatchTotals}
use Rattle.job_facts.specs.declared.rows.KeptReply.{KeptReply}
use Rattle.job_facts.specs.declared.facts.Lot.{Lot}
use Rattle.sql_rows.specs.Decoding.{flag_in, number_in}
use Rattle.row_reads.specs.declared.batches.BatchHead.{BatchHead}
use Rattle.row_reads.specs.declared.batches.BatchAt.{BatchAt}
use Rattle.row_reads.specs.declared.lots.LotRow.{LotRow}

abbrev pub text_in : Value → List ℕ
text_in (Text text) = text
text_in _ = []

abbrev pub blob_in : Value → List ℕ
blob_in (Blob bytes) = bytes
blob_in _ = []

abbrev pub product_in : Row → Product
product_in row = record { code = text_in (column row 0); max = number_in (column row 1); low = number_in (column row 2); check = flag_in (column row 3) }

abbrev pub reply_in : Row → KeptReply
reply_in row = record { ask = blob_in (column row 0); status = number_in (column row 1); body = blob_in (column row 2) }

abbrev pub id_in : Row → ℕ
id_in row = number_in (column row 0)

-- `n` is below 2^63, so it is an integer of SQLite.
abbrev pub IsNumber : ℕ → Type 0
IsNumber n = n < 2 ^ 63

-- Every value `x` has this property.
abbrev pub IsAny : {X : Type 0} → X → Type 0
IsAny x = ⊤

-- the name in column 1, after an id
abbrev pub name_in : Row → List ℕ
name_in row = text_in (column row 1)

-- the counters of a batch, in columns 3 to 9
abbrev pub totals_in : Row → BatchTotals
totals_in row = record {
  records = number_in (column row 3) + number_in (column row 4) + number_in (column row 5) + number_in (column row 6) + number_in (column row 7);
  waiting = number_in (column row 3);
  running = number_in (column row 4);
  failed = number_in (column row 5);
  withdrawn = number_in (column row 6);
  good = number_in (column row 7);
  sessions = number_in (column row 8);
  spoiled = number_in (column row 9);
}

abbrev pub head_in : Row → BatchHead
head_in row = record { id = number_in (column row 0); product = text_in (column row 1); is_closed = flag_in (column row 2); totals = totals_in row }

abbrev pub batch_at_in : Row → BatchAt
batch_at_in row = record { id = number_in (column row 0); product = text_in (column row 1); is_closed = flag_in (column row 2) }

abbrev pub lot_in : Row → Lot
lot_in row = record { name = text_in (column row 2); product = text_in (column row 3); first = number_in (column row 0); count = number_in (column row 1) }

abbrev pub lot_row_in : Row → LotRow
lot_row_in row = record { lot = lot_in row; discarded = number_in (column row 4) }

-- `found` is the first element of the list, or `None` if the list is empty.
abbrev pub IsFirst : {X : Type 0} → List X → Option X → Type 0
IsFirst [] found = found ≡ None
IsFirst (x ∷ xs) found = found ≡ Some x

-- the number in column 0 of the first row, or 0 if the list is empty
abbrev pub first_number : List Row → ℕ
first_number [] = 0
first_number (row ∷ rows) = number_in (column row 0)

-- The list has a row.
abbrev pub has_rows : List Row → Bool
has_rows [] = false
has_rows (row ∷ rows) = true
