-- Defines the accounts of a batch and of a product's blanks (this project's profile): compact JSON
-- (RFC 8259) with the members sorted by name.
use Rattle.std.specs.Prelude.{◌≡◌, ℕ, ◌+◌, List, Option, option_map}
use Rattle.serde_json.specs.Written.{compact_text}
use Rattle.job_facts.specs.declared.rows.BatchRow.{BatchRow}
use Rattle.job_facts.specs.declared.rows.BatchTotals.{BatchTotals}
use Rattle.job_facts.specs.declared.rows.BlankTotals.{BlankTotals}
use Rattle.job_facts.specs.Accounts.{batch_totals, blank_totals}
use Rattle.job_facts.specs.Facts.{Facts}
use Rattle.job_facts.specs.Rows.{batch_row_of}
use Rattle.job_facts.specs.States.{product_named}
use Rattle.reports.specs.Values.{batch_value, blank_value, free}

unfoldable pub batch_text : List ℕ → BatchRow → BatchTotals → List ℕ
batch_text b row t = compact_text (batch_value b row t)

-- the numbers of records in the five states add up to the number of records
abbrev pub AreAllStanding : BatchTotals → Type 0
AreAllStanding t = t.waiting + t.running + t.failed + t.withdrawn + t.good ≡ t.records

-- the account of the batch with the name `b`, if it exists
abbrev pub batch_account : Facts → List ℕ → Option (List ℕ)
batch_account f b = option_map (λ row. batch_text b row (batch_totals f b)) (batch_row_of f b)

unfoldable pub blank_text : List ℕ → BlankTotals → List ℕ
blank_text p t = compact_text (blank_value p t)

-- the account of the blanks of the product with the name `p`, if it exists
abbrev pub blank_account : Facts → List ℕ → Option (List ℕ)
blank_account f p = option_map (λ _. blank_text p (blank_totals f p)) (product_named f.products p)

-- the numbers of blanks in the five states add up to the total
abbrev pub AreAllCounted : BlankTotals → Type 0
AreAllCounted t = free t + t.good + t.running + t.spoiled + t.discarded ≡ t.total
