use Rattle.std.proofs.Common.{◌∷◌, false, refl, sym, ap, ap₂, ◌∙◌}
use Rattle.sqlite.specs.declared.types.Value.TheVariants.{Text}
use Rattle.sql_rows.specs.Encoding.{number}
use Rattle.table_reads.specs.Shown.{IsMarkRow}
use Rattle.table_reads.specs.Whole.{as_stored}
use Rattle.table_reads.proofs.Shapes.{rebuilt}
use Rattle.table_reads.proofs.cards.StoredMarkStored.read.Goals as goal

pub returns : goal.returns
unfolding IsMarkRow
returns c is =
    ap₂ ◌∷◌ (ap Text c.in_ok-client.ensures ∙ is.1)
    (ap₂ ◌∷◌ (ap number c.number_at-upto.ensures ∙ is.2) refl)
    ∙ ap (as_stored false) (sym (rebuilt 3 c.args.row.now is.0))
