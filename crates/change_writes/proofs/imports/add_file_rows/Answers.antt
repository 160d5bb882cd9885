use Rattle.std.proofs.Common.{map}
use Rattle.sql_rows.specs.Image.{Moves}
use Rattle.sql_rows.specs.Many.{with_groupings}
use Rattle.row_writes.specs.FileRows.{grouping_of}
use Rattle.change_writes.proofs.FileRows.{each_row}
use Rattle.change_writes.proofs.Parts.{ran_each}
use Rattle.change_writes.proofs.imports.add_file_rows.Goals as goal

pub returns : goal.returns
returns g c = record {
  wrote = λ clean. ran_each _ (Moves (with_groupings (map grouping_of c.args.rows.now))) c.args.rows.now _ _ c.run_each.result (each_row c.args.rows.now _ _) (c.run_each.ensures.made clean);
  same_reference = c.run_each.ensures.same_reference;
  survives = c.run_each.ensures.survives;
}
