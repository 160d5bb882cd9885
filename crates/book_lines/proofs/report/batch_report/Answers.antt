use Rattle.std.proofs.Common.{◌≡◌, ap, ◌∙◌, subst, sym}
use Rattle.job_facts.specs.Sound.{IsName}
use Rattle.table_rows.specs.Tables.{StoredBatch}
use Rattle.book_lines.proofs.ReportLemmas.{batch_is_named, product_is_named}
use Rattle.book_lines.proofs.report.batch_report.Goals as goal

pub name_of-name-requires : goal.name_of-name-requires
name_of-name-requires c =
    let name : c.deref.result.now ≡ c.args.batch.now.name = c.deref.ensures.value ∙ ap (λ (b : StoredBatch). b.name) c.batch.view_is in
    subst IsName (sym name) (batch_is_named c.args.tables.now c.requires.book.audited c.args.batch.now c.requires.there)

pub row_of-row-requires : goal.row_of-row-requires
row_of-row-requires c = product_is_named c.args.tables.now c.requires.book.audited c.args.batch.now c.requires.there
