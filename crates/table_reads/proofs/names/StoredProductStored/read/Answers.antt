use Rattle.std.proofs.Common.{◌∷◌, false, refl, sym, ap, ap₂, ◌∙◌}
use Rattle.sqlite.specs.declared.types.Value.TheVariants.{Text}
use Rattle.sql_rows.specs.Encoding.{number}
use Rattle.table_reads.specs.Shown.{IsProductRow}
use Rattle.table_reads.specs.Whole.{as_stored}
use Rattle.table_reads.proofs.Shapes.{rebuilt}
use Rattle.table_reads.proofs.names.StoredProductStored.read.Goals as goal

pub returns : goal.returns
unfolding IsProductRow
returns c is =
    ap₂ ◌∷◌ (ap Text c.in_ok-name.ensures ∙ is.1)
    (ap₂ ◌∷◌ (ap number (c.byte_at-max.ensures is.2.1) ∙ is.2.0)
    (ap₂ ◌∷◌ (ap number (c.byte_at-low.ensures is.3.1) ∙ is.3.0)
    (ap₂ ◌∷◌ (ap number (c.flag_at-checked.ensures is.4.1) ∙ is.4.0) refl)))
    ∙ ap (as_stored false) (sym (rebuilt 5 c.args.row.now is.0))
