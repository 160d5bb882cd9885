use Rattle.std.proofs.Common.{◌∷◌, false, refl, sym, ap, ap₂, ◌∙◌}
use Rattle.sqlite.specs.declared.types.Value.TheVariants.{Blob, Text}
use Rattle.sql_rows.specs.Encoding.{number}
use Rattle.table_reads.specs.Shown.{IsReplyRow}
use Rattle.table_reads.specs.Whole.{as_stored}
use Rattle.table_reads.proofs.Shapes.{rebuilt}
use Rattle.table_reads.proofs.cards.StoredReplyStored.read.Goals as goal

pub returns : goal.returns
unfolding IsReplyRow
returns c is =
    ap₂ ◌∷◌ (ap Text c.in_ok-client.ensures ∙ is.1)
    (ap₂ ◌∷◌ (ap number c.number_at-number.ensures ∙ is.2)
    (ap₂ ◌∷◌ (ap Blob c.in_ok-ask.ensures ∙ is.3)
    (ap₂ ◌∷◌ (ap number c.number_at-status.ensures ∙ is.4)
    (ap₂ ◌∷◌ (ap Blob c.in_ok-body.ensures ∙ is.5) refl))))
    ∙ ap (as_stored false) (sym (rebuilt 6 c.args.row.now is.0))
