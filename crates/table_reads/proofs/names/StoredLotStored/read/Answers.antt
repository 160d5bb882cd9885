use Rattle.std.proofs.Common.{◌∷◌, false, refl, sym, ap, ap₂, ◌∙◌}
use Rattle.sqlite.specs.declared.types.Value.TheVariants.{Text}
use Rattle.sql_rows.specs.Encoding.{number}
use Rattle.table_reads.specs.Shown.{IsLotRow}
use Rattle.table_reads.specs.Whole.{as_stored}
use Rattle.table_reads.proofs.Shapes.{rebuilt}
use Rattle.table_reads.proofs.names.StoredLotStored.read.Goals as goal

pub returns : goal.returns
unfolding IsLotRow
returns c is =
    ap₂ ◌∷◌ (ap Text c.in_ok-name.ensures ∙ is.1)
    (ap₂ ◌∷◌ (ap Text c.in_ok-product.ensures ∙ is.2)
    (ap₂ ◌∷◌ (ap number c.number_at-low_serial.ensures ∙ is.3)
    (ap₂ ◌∷◌ (ap number (c.long_at-amount.ensures is.4.1) ∙ is.4.0)
    (ap₂ ◌∷◌ (ap number c.number_at-discarded.ensures ∙ is.5) refl))))
    ∙ ap (as_stored false) (sym (rebuilt 6 c.args.row.now is.0))
