use Rattle.std.proofs.Common.{[], arith, ◌∙◌}
use Rattle.batch_import.specs.Batch.{coming_of}
use Rattle.sql_base.proofs.Lasting.{outlives}
use Rattle.sql_rows.specs.Image.{Moves}
use Rattle.table_rows.specs.After.{batch_rows_after, new_batch}
use Rattle.table_rows.specs.Tables.{with_batch}
use Rattle.change_writes.specs.Imports.{with_file_rows}
use Rattle.change_writes.proofs.Parts.{moved_on, wrote_on}
use Rattle.change_writes.proofs.imports.write_bare.Goals as goal

pub returns : goal.returns
returns g c = record {
  wrote = λ clean.
      let b = c.args.batch.now in
      let rows = (coming_of b.product.check b.raw.now).rows in
      let bare = with_batch (new_batch b.number b.name b.product.code [] b.records) in
      let one = c.in_ok-add_batch.ensures.wrote (omega (arith, c.add_rows.ensures.survives.clean)) in
      wrote_on (Moves bare) (Moves (with_file_rows b.number rows)) (Moves (batch_rows_after b.number b.name b.product.code [] b.records rows)) _ _ _ c.add_rows.result
      (moved_on bare (with_file_rows b.number rows) _ _ _) one.well one.kept (c.add_rows.ensures.wrote clean);
  same_reference = c.add_rows.ensures.same_reference ∙ c.add_batch.ensures.same_reference;
  survives = outlives c.add_batch.ensures.survives c.add_rows.ensures.survives;
}
