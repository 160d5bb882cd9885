use Rattle.std.proofs.Common.{◌≡◌, Option, Some, None, refl, sym, ap, ◌∙◌}
use Rattle.std.specs.Prelude.{find}
use Rattle.sqlite.specs.Held.{state}
use Rattle.table_rows.specs.Keys.{is_batch_named}
use Rattle.table_rows.specs.Tables.{StoredBatch}
use Rattle.row_laws.specs.RowValues as rows
use Rattle.image_laws.specs.Image.{stored_batches}
use Rattle.store_reads.specs.Heads.{is_over}
use Rattle.store_reads.proofs.ReadShown.{shows_as}
use Rattle.store_reads.proofs.batches.is_finished.Goals as goal

by_row : (o : Option StoredBatch) → is_over (rows.totals_in o) ≡ rows.is_over_in o
by_row None = refl
by_row (Some b) = refl

pub returns : goal.returns
returns g c = record {
  value =
      let name = c.args.batch.now in
      shows_as (state g.S.Store c.args.conn.now) (state g.S.Store c.batch_totals.new.conn) _ _ c.in_ok-totals.ensures.value
      (λ d sound is.
      c.is_over.ensures ∙ ap is_over (is ∙ c.totals_by_rows.ensures.totals d.facts name sound.facts) ∙ by_row (find (is_batch_named name) (stored_batches d.facts))
      ∙ sym (c.totals_by_rows.ensures.finished d.facts name sound.facts));
  looks = c.batch_totals.ensures.looks;
}
