-- Lemmas about the lines of a report.
use Rattle.std.proofs.Common.{◌≡◌, ℕ, ◌<◌, ◌^◌, List, Some, sym, ap, subst, ◌∙◌}
use Rattle.job_facts.specs.declared.rows.BatchRow.{BatchRow}
use Rattle.job_facts.specs.declared.rows.BatchTotals.{BatchTotals}
use Rattle.job_facts.specs.declared.rows.RecordLine.{RecordLine}
use Rattle.job_facts.specs.Accounts.{batch_totals, record_lines}
use Rattle.job_facts.specs.Facts.{Facts}
use Rattle.job_facts.specs.Rows.{batch_row_of}
use Rattle.store_data.specs.declared.row.Product.{Product}
use Rattle.job_facts.specs.declared.rows.BlankTotals.{BlankTotals}
use Rattle.job_facts.specs.Accounts.{blank_totals}
use Rattle.job_facts.specs.Sound.{IsSound}
use Rattle.job_facts.specs.States.{product_named}
use Rattle.reports.specs.Accounts.{blank_account, blank_text}
use Rattle.reports.specs.Values.{charged}
use Rattle.reports.specs.Report.{report_text, text_with}
use Rattle.reports.proofs.BlankLemmas.{charged_fits}

pub report_answered : (f : Facts) (b : List ℕ) (row : BatchRow) (lines : List RecordLine) (totals : BatchTotals) (text : List ℕ) → batch_row_of f b ≡ Some row
    → lines ≡ record_lines f b → totals ≡ batch_totals f b → text ≡ text_with b row lines totals → report_text f b ≡ Some text
report_answered f b row lines totals text there lines_are totals_are is =
    rw (there) (ap Some (sym (is ∙ λ i. text_with b row (lines_are i) (totals_are i))))

-- ---- blanks

pub blank_answered : (f : Facts) (p : List ℕ) (product : Product) (totals : BlankTotals) (text : List ℕ) → IsSound f → product_named f.products p ≡ Some product
    → totals ≡ blank_totals f p → (charged totals < 2 ^ 64 → text ≡ blank_text p totals) → blank_account f p ≡ Some text
blank_answered f p product totals text sound there totals_are is =
    let few : charged totals < 2 ^ 64 = subst (λ (t : BlankTotals). charged t < 2 ^ 64) (sym totals_are) (charged_fits f p sound) in
    rw (there) (ap Some (sym (is few ∙ ap (blank_text p) totals_are)))
