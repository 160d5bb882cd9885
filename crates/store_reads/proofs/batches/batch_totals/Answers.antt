use Rattle.std.proofs.Common.{◌≡◌, Option, Some, None, refl, sym, ap, ◌∙◌}
use Rattle.std.specs.Prelude.{find, option_map}
use Rattle.sqlite.specs.Held.{state}
use Rattle.row_reads.specs.RowValues.{head_of}
use Rattle.table_rows.specs.Keys.{is_batch_named}
use Rattle.table_rows.specs.Tables.{StoredBatch}
use Rattle.row_laws.specs.RowValues as rows
use Rattle.image_laws.specs.Image.{stored_batches}
use Rattle.store_reads.specs.Heads.{totals_in}
use Rattle.store_reads.proofs.ReadContents.{shown}
use Rattle.store_reads.proofs.batches.batch_totals.Goals as goal

by_row : (o : Option StoredBatch) → totals_in (option_map head_of o) ≡ rows.totals_in o
by_row None = refl
by_row (Some b) = refl

pub returns : goal.returns
returns g c = record {
  value =
      let name = c.args.batch.now in
      shown (state g.S.Store c.args.conn.now) (state g.S.Store c.batch_head.new.conn) _ _ c.in_ok-found.ensures.finds.found
      (λ d sound is.
      c.totals_of.ensures ∙ ap totals_in (is (c.batches_by_name.ensures.once d.facts name sound.facts)) ∙ by_row (find (is_batch_named name) (stored_batches d.facts))
      ∙ sym (c.totals_by_rows.ensures.totals d.facts name sound.facts));
  looks = c.batch_head.ensures.finds.looks;
}
