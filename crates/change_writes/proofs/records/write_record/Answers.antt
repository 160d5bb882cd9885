use Rattle.std.proofs.Common.{arith, ◌∙◌}
use Rattle.sql_base.proofs.Ending.{wrote_then}
use Rattle.sql_base.proofs.Lasting.{outlives}
use Rattle.sql_rows.specs.Image.{Moves}
use Rattle.table_rows.specs.After.{record_after}
use Rattle.table_rows.specs.Tables.{with_record_set, with_totals_set}
use Rattle.change_writes.proofs.Parts.{moved_on}
use Rattle.change_writes.proofs.records.write_record.Goals as goal

pub returns : goal.returns
returns g c = record {
  wrote = λ clean.
      let a = c.args in
      let p = a.place.now in
      let set = with_record_set p.batch p.place a.stands p.spoiled p.remakes in
      let counted = with_totals_set p.batch p.totals in
      let one = c.in_ok-set_record.ensures.wrote (omega (arith, c.set_totals.ensures.survives.clean)) in
      wrote_then (Moves set) (Moves counted) (Moves (record_after p a.stands p.spoiled p.remakes p.totals)) _ _ _ c.set_totals.result
      (moved_on set counted _ _ _) one.well one.kept (c.set_totals.ensures.wrote clean);
  same_reference = c.set_totals.ensures.same_reference ∙ c.set_record.ensures.same_reference;
  survives = outlives c.set_record.ensures.survives c.set_totals.ensures.survives;
}
