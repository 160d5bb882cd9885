use Rattle.std.proofs.Common.{Option, subst}
use Rattle.event_lines.specs.Notes.{NotesAll}
use Rattle.server_run.specs.ImportLines.{ImportedFile, file_lines, refusal_of}
use Rattle.server_run.proofs.import.note_file.Goals as goal

pub returns-in-Some-clause-noted : goal.returns-in-Some-clause-noted
returns-in-Some-clause-noted g c =
    let before = g.E.Write.contents c.args.events.now.writer in
    let after = g.E.Write.contents c.note_words.new.events.writer in
    subst (λ (file : Option ImportedFile). NotesAll c.args.events.now.level before after (file_lines c.args.product.now file (refusal_of c.args.observation.now))) c.in-Some.ensures c.note_words.ensures.noted
