-- Defines the report of a batch (this project's profile). Each line ends with LF.
use Rattle.std.specs.Prelude.{ℕ, ◌-◌, List, ◌++◌, length, codes, decimal, Option, Some, None, option_map}
use Rattle.std.specs.List.{flat_map, repeat}
use Rattle.job_facts.specs.declared.rows.BatchRow.{BatchRow}
use Rattle.job_facts.specs.declared.rows.BatchTotals.{BatchTotals}
use Rattle.job_facts.specs.declared.rows.RecordLine.{RecordLine}
use Rattle.job_facts.specs.Accounts.{batch_totals, record_lines}
use Rattle.job_facts.specs.Facts.{Facts}
use Rattle.job_facts.specs.Rows.{batch_row_of}
use Rattle.reports.specs.Names.{closed_name, state_name}

-- `text`, left-aligned in `places` columns
abbrev pub left_in : ℕ → List ℕ → List ℕ
left_in places text = text ++ repeat (places - length text) (codes " ")

-- `text`, right-aligned in `places` columns
abbrev pub right_in : ℕ → List ℕ → List ℕ
right_in places text = repeat (places - length text) (codes " ") ++ text

unfoldable pub head_text : List ℕ → BatchRow → List ℕ
head_text b row = codes "batch " ++ b ++ codes "\nproduct " ++ row.product ++ codes "\nstate " ++ closed_name row.is_closed ++ codes "\n"

-- the serial of the good card, or `-`
abbrev pub serial_text : Option ℕ → List ℕ
serial_text None = codes "-"
serial_text (Some blank) = decimal blank

unfoldable pub record_text : RecordLine → List ℕ
record_text line =
    codes "record " ++ line.rec ++ codes " " ++ state_name line.stands ++ codes " " ++ decimal line.sessions ++ codes " " ++ serial_text line.blank ++ codes "\n"

-- the line with a label, a space, and the number right-aligned in 10 columns
abbrev pub labelled : List ℕ → ℕ → List ℕ
labelled label n = label ++ codes " " ++ right_in 10 (decimal n) ++ codes "\n"

-- the line of a total, with the label left-aligned in 9 columns
abbrev pub total_text : List ℕ → ℕ → List ℕ
total_text label n = labelled (left_in 9 label) n

unfoldable pub totals_text : BatchTotals → List ℕ
totals_text t =
    total_text (codes "records") t.records ++ total_text (codes "waiting") t.waiting ++ total_text (codes "running") t.running
    ++ total_text (codes "failed") t.failed ++ total_text (codes "withdrawn") t.withdrawn ++ total_text (codes "good") t.good
    ++ total_text (codes "sessions") t.sessions ++ total_text (codes "spoiled") t.spoiled

-- the report of a batch whose records are `lines`, in file order
abbrev pub text_with : List ℕ → BatchRow → List RecordLine → BatchTotals → List ℕ
text_with b row lines totals = head_text b row ++ flat_map record_text lines ++ totals_text totals

-- the report of the batch with the name `b`, if it exists
abbrev pub report_text : Facts → List ℕ → Option (List ℕ)
report_text f b = option_map (λ row. text_with b row (record_lines f b) (batch_totals f b)) (batch_row_of f b)
