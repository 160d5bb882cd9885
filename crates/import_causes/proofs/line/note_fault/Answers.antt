use Rattle.std.proofs.Common.{[], ◌∷◌}
use Rattle.std.proofs.KnownBytes.{Keeps-refl}
use Rattle.event_lines.proofs.NotesLemmas.{lost-all}
use Rattle.import_causes.specs.Explanations.{explanation_of, fault_text}
use Rattle.import_causes.proofs.line.note_fault.Goals as goal

pub returns-else-is_on-clause-noted : goal.returns-else-is_on-clause-noted
returns-else-is_on-clause-noted g c =
    let w = g.E.Write.contents c.args.events.now.writer in
    lost-all c.args.events.now.level w w (fault_text (explanation_of c.args.raw.now c.args.product.now c.args.fault) ∷ []) (Keeps-refl w)
