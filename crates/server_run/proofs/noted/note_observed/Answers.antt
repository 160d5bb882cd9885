use Rattle.std.proofs.Common.{◌++◌, subst, ◌∙◌}
use Rattle.event_lines.specs.Notes.{NotesAll}
use Rattle.event_lines.specs.declared.level.Level.{Level}
use Rattle.server_run.specs.ConnectionLines.{own_lines, recovery_lines}
use Rattle.server_run.specs.ImportLines.{import_lines}
use Rattle.event_lines.proofs.NotesLemmas.{both-all}
use Rattle.server_run.proofs.noted.note_observed.Goals as goal

pub returns-clause-noted : goal.returns-clause-noted
returns-clause-noted g c =
    let o = c.args.observation.now in
    let level = c.args.events.now.level in
    let recovery = recovery_lines level c.args.is_failing o in
    let before = g.E.Write.contents c.args.events.now.writer in
    let first = g.E.Write.contents c.note_recovery.new.events.writer in
    let second = g.E.Write.contents c.note_own.new.events.writer in
    let after = g.E.Write.contents c.note_import.new.events.writer in
    both-all level before second after (recovery ++ own_lines level o) (import_lines o)
    (both-all level before first second recovery (own_lines level o) c.note_recovery.ensures.noted
    (subst (λ (l : Level). NotesAll l first second (own_lines l o)) c.note_recovery.ensures.level c.note_own.ensures.noted))
    (subst (λ (l : Level). NotesAll l second after (import_lines o)) (c.note_own.ensures.level ∙ c.note_recovery.ensures.level) c.note_import.ensures.noted)
