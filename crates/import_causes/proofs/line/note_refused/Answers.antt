use Rattle.std.proofs.Common.{Option, subst}
use Rattle.std.proofs.KnownBytes.{Keeps-refl}
use Rattle.event_lines.proofs.NotesLemmas.{lost-all}
use Rattle.event_lines.specs.Notes.{NotesAll}
use Rattle.batch_import.specs.declared.fault.RowFault.{RowFault}
use Rattle.import_causes.specs.Explanations.{fault_lines, refused_lines}
use Rattle.import_causes.proofs.line.note_refused.Goals as goal

pub returns-then-not-is_on-clause-noted : goal.returns-then-not-is_on-clause-noted
returns-then-not-is_on-clause-noted g c =
    let w = g.E.Write.contents c.args.events.now.writer in
    lost-all c.args.events.now.level w w (refused_lines c.args.raw.now c.args.product.now c.args.name.now) (Keeps-refl w)

pub returns-in-Ok-clause-noted : goal.returns-in-Ok-clause-noted
returns-in-Ok-clause-noted g c =
    let before = g.E.Write.contents c.args.events.now.writer in
    let after = g.E.Write.contents c.note_found.new.events.writer in
    subst (λ (found : Option RowFault). NotesAll c.args.events.now.level before after (fault_lines c.args.raw.now c.args.product.now found)) c.in-Ok.ensures c.note_found.ensures.noted

-- an allocation failed
pub returns-in-Err-clause-noted : goal.returns-in-Err-clause-noted
returns-in-Err-clause-noted g c =
    let w = g.E.Write.contents c.args.events.now.writer in
    lost-all c.args.events.now.level w w (refused_lines c.args.raw.now c.args.product.now c.args.name.now) (Keeps-refl w)
