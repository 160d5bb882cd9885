use Rattle.std.proofs.Common.{map, arith, ◌∙◌}
use Rattle.sql_base.proofs.Lasting.{outlives}
use Rattle.sql_rows.specs.Image.{Moves}
use Rattle.sql_rows.specs.Many.{with_groupings, with_records}
use Rattle.row_writes.specs.FileRows.{grouping_of, record_of}
use Rattle.change_writes.proofs.Parts.{many_after, moved_on}
use Rattle.change_writes.proofs.imports.add_next.Goals as goal

pub returns : goal.returns
returns g c = record {
  wrote = λ clean.
      let records = with_records (map record_of c.args.next.now.records.items) in
      let rows = with_groupings (map grouping_of c.args.next.now.rows.items) in
      let one = rw (c.deref.ensures.value) at (c.in_ok-add_new_records.ensures.wrote (omega (arith, c.add_file_rows.ensures.survives.clean))) in
      many_after (Moves records) (Moves rows) (Moves (λ t. rows (records t))) _ _ _ c.add_file_rows.result (moved_on records rows _ _ _) one.well one.kept (rw (c.deref-2.ensures.value) at (c.add_file_rows.ensures.wrote clean));
  same_reference = c.add_file_rows.ensures.same_reference ∙ c.add_new_records.ensures.same_reference;
  survives = outlives c.add_new_records.ensures.survives c.add_file_rows.ensures.survives;
}
