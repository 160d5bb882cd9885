use Rattle.std.proofs.Common.{map}
use Rattle.sql_rows.specs.Image.{Moves}
use Rattle.sql_rows.specs.Many.{with_records}
use Rattle.row_writes.specs.FileRows.{record_of}
use Rattle.change_writes.proofs.FileRows.{each_record}
use Rattle.change_writes.proofs.Parts.{ran_each}
use Rattle.change_writes.proofs.imports.add_new_records.Goals as goal

pub returns : goal.returns
returns g c = record {
  wrote = λ clean. ran_each _ (Moves (with_records (map record_of c.args.records.now))) c.args.records.now _ _ c.run_each.result (each_record c.args.records.now _ _) (c.run_each.ensures.made clean);
  same_reference = c.run_each.ensures.same_reference;
  survives = c.run_each.ensures.survives;
}
