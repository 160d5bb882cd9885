-- The output of `shopbook list`: a line for each product, for each lot with its free, used and
-- discarded blanks, and for each batch with its account, in the order of rows; then the limits and
-- the size of the database file.
use Rattle.std.specs.Prelude.{ℕ, ◌-◌, Bool, true, false, List, [], ◌∷◌, ◌++◌, codes, filter, length, Option}
use Rattle.store_data.specs.declared.row.Product.{Product}
use Rattle.job_facts.specs.States.{is_in}
use Rattle.table_rows.specs.Keys.{is_record_of}
use Rattle.table_rows.specs.Tables.{StoredBatch, StoredBlank, StoredLot, Tables}
use Rattle.audit_laws.specs.Audited.{opened_rows}
use Rattle.book_lines.specs.declared.form.Form.{Form}
use Rattle.book_lines.specs.Limits.{limit_line, limits_in, size_line}
use Rattle.book_lines.specs.Lines.{Line, digits_cell, line_text, lines_by, number_cell, word_cell}

-- ---- products

abbrev pub yes_or_no : Bool → List ℕ
yes_or_no true = codes "yes"
yes_or_no false = codes "no"

abbrev pub product_line : Product → Line
product_line p = record {
  kind = codes "product";
  cells = word_cell (codes "name") p.code ∷ number_cell (codes "max") p.max ∷ number_cell (codes "low") p.low ∷ word_cell (codes "check") (yes_or_no p.check) ∷ [];
}

-- ---- lots

-- the charged blanks in the lot `l`
abbrev pub charged_in : StoredLot → List StoredBlank → List StoredBlank
charged_in l blanks = filter (λ (b : StoredBlank). is_in b.serial l.lot) blanks

-- the line of the lot `l`; its used blanks are the ones that a session charged
abbrev pub lot_line : List StoredBlank → StoredLot → Line
lot_line blanks l = record {
  kind = codes "lot";
  cells = word_cell (codes "name") l.lot.name ∷ word_cell (codes "product") l.lot.product ∷ digits_cell (codes "first") l.lot.first ∷ number_cell (codes "count") l.lot.count
      ∷ number_cell (codes "free") (l.lot.count - length (charged_in l blanks)) ∷ number_cell (codes "used") (length (opened_rows (charged_in l blanks)))
      ∷ number_cell (codes "discarded") l.discarded ∷ [];
}

-- ---- batches

abbrev pub open_or_closed : Bool → List ℕ
open_or_closed true = codes "closed"
open_or_closed false = codes "open"

abbrev pub batch_line : Tables → StoredBatch → Line
batch_line t b = record {
  kind = codes "batch";
  cells = word_cell (codes "name") b.name ∷ word_cell (codes "product") b.product ∷ word_cell (codes "state") (open_or_closed b.closed)
      ∷ number_cell (codes "records") (length (filter (is_record_of b.id) t.records)) ∷ number_cell (codes "waiting") b.waiting ∷ number_cell (codes "running") b.running
      ∷ number_cell (codes "failed") b.failed ∷ number_cell (codes "withdrawn") b.withdrawn ∷ number_cell (codes "good") b.good
      ∷ number_cell (codes "sessions") b.sessions ∷ number_cell (codes "spoiled") b.spoiled ∷ [];
}

-- ---- complete output

-- the complete output for a database file of `size` bytes
abbrev pub list_text : Form → Option ℕ → Tables → List ℕ
list_text form size t =
    lines_by form product_line t.products ++ lines_by form (lot_line t.blanks) t.lots ++ lines_by form (batch_line t) t.batches
    ++ lines_by form limit_line (limits_in t) ++ line_text form (size_line size)
