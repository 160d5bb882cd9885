use Rattle.std.proofs.Common.{◌+◌, arith, ◌∙◌}
use Rattle.job_facts.specs.declared.facts.RecordState.TheVariants as rec
use Rattle.sql_base.proofs.Ending.{wrote_then}
use Rattle.sql_base.proofs.Lasting.{outlives}
use Rattle.sql_rows.specs.Image.{Moves}
use Rattle.table_rows.specs.After.{less, more, record_after}
use Rattle.table_rows.specs.Tables.{StoredRemake, with_remake}
use Rattle.change_writes.proofs.Parts.{moved_on}
use Rattle.change_writes.proofs.records.write_remake.Goals as goal

pub returns : goal.returns
returns g c = record {
  wrote = λ clean.
      let p = c.args.place.now in
      let turn : StoredRemake = record { batch = p.batch; place = p.place; turn = p.remakes + 1 } in
      let after = record_after p rec.Waiting p.spoiled (p.remakes + 1) (more rec.Waiting (less rec.Failed p.totals)) in
      let one = c.in_ok-add_remake.ensures.wrote (omega (arith, c.write_record.ensures.survives.clean)) in
      let two = rw c.passed.ensures.value at (c.write_record.ensures.wrote clean) in
      wrote_then (Moves (with_remake turn)) (Moves after) (Moves (λ t. after (with_remake turn t))) _ _ _ c.write_record.result
      (moved_on (with_remake turn) after _ _ _) one.well one.kept two;
  same_reference = c.write_record.ensures.same_reference ∙ c.add_remake.ensures.same_reference;
  survives = outlives c.add_remake.ensures.survives c.write_record.ensures.survives;
}
