use Rattle.std.proofs.Common.{◌∷◌, true, refl, sym, ap, ap₂, ◌∙◌}
use Rattle.sqlite.specs.declared.types.Value.TheVariants.{Text}
use Rattle.sql_rows.specs.Encoding.{number}
use Rattle.table_reads.specs.Shown.{IsBlankRow}
use Rattle.table_reads.specs.Whole.{as_stored}
use Rattle.table_reads.proofs.Shapes.{rebuilt}
use Rattle.table_reads.proofs.cards.StoredBlankStored.read.Goals as goal

pub returns : goal.returns
unfolding IsBlankRow
returns c is =
    ap₂ ◌∷◌ (ap number c.number_at-serial.ensures ∙ is.1)
    (ap₂ ◌∷◌ refl
    (ap₂ ◌∷◌ (ap Text c.in_ok-lot.ensures ∙ is.2)
    (ap₂ ◌∷◌ (ap number (c.flag_at-discarded.ensures is.3.1) ∙ is.3.0) refl)))
    ∙ ap (as_stored true) (sym (rebuilt 3 c.args.row.now is.0))
