use Rattle.std.proofs.Common.{◌+◌, true, arith, ◌∙◌}
use Rattle.sql_base.proofs.Ending.{wrote_then}
use Rattle.sql_base.proofs.Lasting.{outlives}
use Rattle.sql_rows.specs.Image.{Moves}
use Rattle.table_rows.specs.Tables.{StoredBlank, with_blank, with_lot_set}
use Rattle.change_writes.proofs.Parts.{moved_on}
use Rattle.change_writes.proofs.cards.write_discard.Goals as goal

pub returns : goal.returns
returns g c = record {
  wrote = λ clean.
      let v = c.args in
      let charged : StoredBlank = record { serial = v.blank; lot = v.lot.now; discarded = true } in
      let set = with_lot_set v.lot.now (v.discarded + 1) in
      let one = c.in_ok-add_blank.ensures.wrote (omega (arith, c.set_lot.ensures.survives.clean)) in
      wrote_then (Moves (with_blank charged)) (Moves set) (Moves (λ t. set (with_blank charged t))) _ _ _ c.set_lot.result
      (moved_on (with_blank charged) set _ _ _) one.well one.kept (c.set_lot.ensures.wrote clean);
  same_reference = c.set_lot.ensures.same_reference ∙ c.add_blank.ensures.same_reference;
  survives = outlives c.add_blank.ensures.survives c.set_lot.ensures.survives;
}
