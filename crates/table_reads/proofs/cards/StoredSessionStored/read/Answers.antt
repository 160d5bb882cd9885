use Rattle.std.proofs.Common.{◌∷◌, true, refl, sym, ap, ap₂, ◌∙◌}
use Rattle.sqlite.specs.declared.types.Value.TheVariants.{Text}
use Rattle.sql_rows.specs.Encoding.{number}
use Rattle.table_reads.specs.Shown.{IsSessionRow}
use Rattle.table_reads.specs.Whole.{as_stored}
use Rattle.table_reads.proofs.Shapes.{rebuilt}
use Rattle.table_reads.proofs.cards.StoredSessionStored.read.Goals as goal

pub returns : goal.returns
unfolding IsSessionRow
returns c is =
    ap₂ ◌∷◌ (ap number c.number_at-id.ensures ∙ is.1)
    (ap₂ ◌∷◌ refl
    (ap₂ ◌∷◌ (ap Text c.in_ok-machine.ensures ∙ is.2)
    (ap₂ ◌∷◌ (ap number c.number_at-batch.ensures ∙ is.3)
    (ap₂ ◌∷◌ (ap number c.number_at-place.ensures ∙ is.4)
    (ap₂ ◌∷◌ (ap number c.number_at-serial.ensures ∙ is.5)
    (ap₂ ◌∷◌ (ap number (c.session_state_at-state.ensures is.6.1) ∙ is.6.0)
    (ap₂ ◌∷◌ (ap number (c.flag_at-ended.ensures is.7.1) ∙ is.7.0)
    (ap₂ ◌∷◌ (ap number c.number_at-words.ensures ∙ is.8)
    (ap₂ ◌∷◌ (ap number c.number_at-app.ensures ∙ is.9)
    (ap₂ ◌∷◌ (ap number c.number_at-segment.ensures ∙ is.10)
    (ap₂ ◌∷◌ (ap number c.number_at-offset.ensures ∙ is.11)
    (ap₂ ◌∷◌ (ap number c.number_at-block.ensures ∙ is.12) refl))))))))))))
    ∙ ap (as_stored true) (sym (rebuilt 12 c.args.row.now is.0))
