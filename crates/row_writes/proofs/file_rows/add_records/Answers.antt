use Rattle.std.proofs.Common.{map, ◌∙◌}
use Rattle.std.proofs.lemmas.List.{length-map}
use Rattle.sql_rows.specs.Many.{with_records}
use Rattle.row_writes.specs.FileRows.{record_of}
use Rattle.row_writes.proofs.PuttingFileRows.{records_added}
use Rattle.row_writes.proofs.Writing.{writes}
use Rattle.row_writes.proofs.file_rows.add_records.Goals as goal

pub returns : goal.returns
returns g c =
    let xs = map record_of c.args.records.now in
    writes g.S.Store (with_records xs) c.args.tx.now.conn c.execute.new.self.conn _ _ (records_added xs (length-map c.args.records.now record_of ∙ c.requires) _ _)
    c.execute.result c.execute.ensures.ended c.execute.ensures.same_reference c.execute.ensures.survives
    (λ clean. rw (c.deref.ensures.value, c.in_ok-values.ensures) at (c.execute.ensures.runs clean))
