use Rattle.std.proofs.Common.{rules, sym, ap, ◌∙◌}
use Rattle.std.specs.Prelude.{option_map}
use Rattle.sqlite.specs.Held.{state}
use Rattle.row_reads.specs.declared.lots.LotRow.{LotRow}
use Rattle.row_reads.specs.RowValues.{lot_row_of}
use Rattle.row_laws.proofs.Finding.{option_map-map}
use Rattle.store_reads.proofs.ReadContents.{shown}
use Rattle.store_reads.proofs.lots.lot.Goals as goal

pub returns : goal.returns
returns g c = record {
  value =
      let named = c.lots_by_name.ensures in
      let name = c.args.name.now in
      shown (state g.S.Store c.args.conn.now) (state g.S.Store c.lot.new.conn) _ _ c.in_ok-found.ensures.finds.found
      (λ d sound is. search rules ∙ ap (option_map (λ (row : LotRow). row.lot)) (is (named.once d.facts name sound.facts)) ∙ option_map-map (λ (row : LotRow). row.lot) lot_row_of _ ∙ sym (named.lot d.facts name));
  looks = c.lot.ensures.finds.looks;
}
