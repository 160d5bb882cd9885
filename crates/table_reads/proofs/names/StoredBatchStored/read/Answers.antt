use Rattle.std.proofs.Common.{◌∷◌, true, refl, sym, ap, ap₂, ◌∙◌}
use Rattle.sqlite.specs.declared.types.Value.TheVariants.{Blob, Text}
use Rattle.sql_rows.specs.Encoding.{number}
use Rattle.table_reads.specs.Shown.{IsBatchRow}
use Rattle.table_reads.specs.Whole.{as_stored}
use Rattle.table_reads.proofs.Shapes.{rebuilt}
use Rattle.table_reads.proofs.names.StoredBatchStored.read.Goals as goal

pub returns : goal.returns
unfolding IsBatchRow
returns c is =
    ap₂ ◌∷◌ (ap number c.number_at-id.ensures ∙ is.1)
    (ap₂ ◌∷◌ refl
    (ap₂ ◌∷◌ (ap Text c.in_ok-name.ensures ∙ is.2)
    (ap₂ ◌∷◌ (ap Text c.in_ok-product.ensures ∙ is.3)
    (ap₂ ◌∷◌ (ap Blob c.in_ok-raw.ensures ∙ is.4)
    (ap₂ ◌∷◌ (ap number (c.flag_at-closed.ensures is.5.1) ∙ is.5.0)
    (ap₂ ◌∷◌ (ap number c.number_at-waiting.ensures ∙ is.6)
    (ap₂ ◌∷◌ (ap number c.number_at-running.ensures ∙ is.7)
    (ap₂ ◌∷◌ (ap number c.number_at-failed.ensures ∙ is.8)
    (ap₂ ◌∷◌ (ap number c.number_at-withdrawn.ensures ∙ is.9)
    (ap₂ ◌∷◌ (ap number c.number_at-good.ensures ∙ is.10)
    (ap₂ ◌∷◌ (ap number c.number_at-sessions.ensures ∙ is.11)
    (ap₂ ◌∷◌ (ap number c.number_at-spoiled.ensures ∙ is.12) refl))))))))))))
    ∙ ap (as_stored true) (sym (rebuilt 12 c.args.row.now is.0))
