use Rattle.std.proofs.Common.{◌∷◌, false, refl, sym, ap, ap₂, ◌∙◌}
use Rattle.sqlite.specs.declared.types.Value.TheVariants.{Blob}
use Rattle.sql_rows.specs.Encoding.{number}
use Rattle.table_reads.specs.Shown.{IsGroupingRow}
use Rattle.table_reads.specs.Whole.{as_stored}
use Rattle.table_reads.proofs.Shapes.{rebuilt}
use Rattle.table_reads.proofs.cards.StoredGroupingStored.read.Goals as goal

pub returns : goal.returns
unfolding IsGroupingRow
returns c is =
    ap₂ ◌∷◌ (ap number c.number_at-batch.ensures ∙ is.1)
    (ap₂ ◌∷◌ (ap number c.number_at-line.ensures ∙ is.2)
    (ap₂ ◌∷◌ (ap number c.number_at-place.ensures ∙ is.3)
    (ap₂ ◌∷◌ (ap Blob c.in_ok-aid.ensures ∙ is.4)
    (ap₂ ◌∷◌ (ap number (c.short_at-rank.ensures is.5.1) ∙ is.5.0)
    (ap₂ ◌∷◌ (ap number (c.enc_at-enc.ensures is.6.1) ∙ is.6.0)
    (ap₂ ◌∷◌ (ap number (c.flag_at-tol.ensures is.7.1) ∙ is.7.0)
    (ap₂ ◌∷◌ (ap Blob c.in_ok-coded.ensures ∙ is.8) refl)))))))
    ∙ ap (as_stored false) (sym (rebuilt 9 c.args.row.now is.0))
