use Rattle.std.proofs.Common.{rules, sym, ap, ◌∙◌}
use Rattle.std.specs.Prelude.{find, option_map}
use Rattle.sqlite.specs.Held.{state}
use Rattle.row_reads.specs.RowValues.{batch_at}
use Rattle.table_rows.specs.Keys.{is_batch_named}
use Rattle.row_laws.proofs.Finding.{option_map-map}
use Rattle.image_laws.specs.Image.{stored_batches}
use Rattle.store_reads.specs.Heads.{row_of}
use Rattle.store_reads.proofs.ReadContents.{shown}
use Rattle.store_reads.proofs.batches.batch.Goals as goal

pub returns : goal.returns
returns g c = record {
  value =
      let name = c.args.name.now in
      shown (state g.S.Store c.args.conn.now) (state g.S.Store c.batch_by_name.new.conn) _ _ c.in_ok-found.ensures.finds.found
      (λ d sound is.
      search rules ∙ ap (option_map row_of) (is (c.batches_by_name.ensures.once d.facts name sound.facts)) ∙ option_map-map row_of batch_at (find (is_batch_named name) (stored_batches d.facts))
      ∙ sym (c.batches_by_rows.ensures.row d.facts name));
  looks = c.batch_by_name.ensures.finds.looks;
}
