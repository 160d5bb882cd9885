use Rattle.std.proofs.Common.{[], arith, ◌∙◌}
use Rattle.batch_import.specs.Batch.{coming_of}
use Rattle.sql_base.proofs.Ending.{wrote_then}
use Rattle.sql_base.proofs.Lasting.{outlives}
use Rattle.sql_rows.specs.Image.{Moves}
use Rattle.table_rows.specs.After.{batch_rows_after}
use Rattle.row_writes.specs.Raw.{with_raw_set}
use Rattle.change_writes.proofs.Raw.{bytes_last}
use Rattle.change_writes.proofs.imports.write_batch.Goals as goal

pub returns : goal.returns
returns g c = record {
  wrote = λ clean.
      let b = c.args.batch.now in
      let raw = b.raw.now in
      let rows = (coming_of b.product.check raw).rows in
      let one = c.in_ok-write_bare.ensures.wrote (omega (arith, c.set_raw.ensures.survives.clean)) in
      wrote_then (Moves (batch_rows_after b.number b.name b.product.code [] b.records rows)) (Moves (with_raw_set b.number raw)) (Moves (batch_rows_after b.number b.name b.product.code raw b.records rows)) _ _ _ c.set_raw.result
      (bytes_last b.number b.records b.name b.product.code raw rows _ _ _) one.well one.kept (c.set_raw.ensures.wrote clean);
  same_reference = c.set_raw.ensures.same_reference ∙ c.write_bare.ensures.same_reference;
  survives = outlives c.write_bare.ensures.survives c.set_raw.ensures.survives;
}
