use Rattle.std.proofs.Common.{◌∷◌, false, refl, sym, ap, ap₂, ◌∙◌}
use Rattle.sqlite.specs.declared.types.Value.TheVariants.{Text}
use Rattle.sql_rows.specs.Encoding.{number}
use Rattle.table_reads.specs.Shown.{IsRecordRow}
use Rattle.table_reads.specs.Whole.{as_stored}
use Rattle.table_reads.proofs.Shapes.{rebuilt}
use Rattle.table_reads.proofs.names.StoredRecordStored.read.Goals as goal

pub returns : goal.returns
unfolding IsRecordRow
returns c is =
    ap₂ ◌∷◌ (ap number c.number_at-batch.ensures ∙ is.1)
    (ap₂ ◌∷◌ (ap number c.number_at-place.ensures ∙ is.2)
    (ap₂ ◌∷◌ (ap Text c.in_ok-name.ensures ∙ is.3)
    (ap₂ ◌∷◌ (ap number (c.record_state_at-state.ensures is.4.1) ∙ is.4.0)
    (ap₂ ◌∷◌ (ap number c.number_at-spoiled.ensures ∙ is.5)
    (ap₂ ◌∷◌ (ap number c.number_at-remakes.ensures ∙ is.6) refl)))))
    ∙ ap (as_stored false) (sym (rebuilt 7 c.args.row.now is.0))
