use Rattle.std.proofs.Common.{◌∷◌, false, refl, sym, ap, ap₂, ◌∙◌}
use Rattle.sql_rows.specs.Encoding.{number}
use Rattle.table_reads.specs.Shown.{IsWordRow}
use Rattle.table_reads.specs.Whole.{as_stored}
use Rattle.table_reads.proofs.Shapes.{rebuilt}
use Rattle.table_reads.proofs.cards.StoredWordStored.read.Goals as goal

pub returns : goal.returns
unfolding IsWordRow
returns c is =
    ap₂ ◌∷◌ (ap number c.number_at-session.ensures ∙ is.1)
    (ap₂ ◌∷◌ (ap number c.number_at-place.ensures ∙ is.2)
    (ap₂ ◌∷◌ (ap number (c.short_at-sw.ensures is.3.1) ∙ is.3.0) refl))
    ∙ ap (as_stored false) (sym (rebuilt 4 c.args.row.now is.0))
