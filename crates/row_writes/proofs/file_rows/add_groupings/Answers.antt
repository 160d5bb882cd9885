use Rattle.std.proofs.Common.{map, ◌∙◌}
use Rattle.std.proofs.lemmas.List.{length-map}
use Rattle.sql_rows.specs.Many.{with_groupings}
use Rattle.row_writes.specs.FileRows.{grouping_of}
use Rattle.row_writes.proofs.PuttingFileRows.{groupings_added}
use Rattle.row_writes.proofs.Writing.{writes}
use Rattle.row_writes.proofs.file_rows.add_groupings.Goals as goal

pub returns : goal.returns
returns g c =
    let xs = map grouping_of c.args.rows.now in
    writes g.S.Store (with_groupings xs) c.args.tx.now.conn c.execute.new.self.conn _ _ (groupings_added xs (length-map c.args.rows.now grouping_of ∙ c.requires) _ _)
    c.execute.result c.execute.ensures.ended c.execute.ensures.same_reference c.execute.ensures.survives
    (λ clean. rw (c.deref.ensures.value, c.in_ok-values.ensures) at (c.execute.ensures.runs clean))
