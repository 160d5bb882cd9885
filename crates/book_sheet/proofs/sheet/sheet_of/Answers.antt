use Rattle.std.proofs.Common.{◌≡◌, Contains, Some, ap, ◌∙◌, sym}
use Rattle.std.specs.Prelude.{find}
use Rattle.std.proofs.lemmas.List.Elements.{All-contains_itself}
use Rattle.job_facts.proofs.Lists.{find-All}
use Rattle.table_rows.specs.Keys.{is_batch_named}
use Rattle.table_rows.specs.Tables.{Tables}
use Rattle.book_sheet.proofs.sheet.sheet_of.Goals as goal

-- the row that was found is one of the batches
pub sheet_text-requires-clause-there : goal.sheet_text-requires-clause-there
sheet_text-requires-clause-there c =
    let batches = c.args.tables.now.batches in
    let its = is_batch_named c.args.batch.now in
    let row = c.in-Some.row.now in
    let are : c.deref.result.now ≡ batches = c.deref.ensures.value ∙ ap (λ (t : Tables). t.batches) c.tables.view_is in
    let found : find its batches ≡ Some row = ap (find its) (sym are) ∙ sym c.in-Some.ensures in
    find-All its (Contains batches) batches row (All-contains_itself batches) found
