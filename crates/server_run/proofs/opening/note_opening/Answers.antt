use Rattle.std.proofs.Common.{[], ◌∷◌, subst}
use Rattle.event_lines.specs.Notes.{NotesAll}
use Rattle.event_lines.specs.declared.level.Level.{Level}
use Rattle.server_run.specs.Openings.{opening_line}
use Rattle.server_run.proofs.OpeningLemmas.{off-opens, on-opens}
use Rattle.server_run.proofs.opening.note_opening.Goals as goal

pub returns-then-not-is_on-clause-noted : goal.returns-then-not-is_on-clause-noted
returns-then-not-is_on-clause-noted g c = off-opens _ c.is_on.result _ _ _ c.is_on.ensures c.if-not-is_on.true

pub returns-clause-noted : goal.returns-clause-noted
returns-clause-noted g c =
    let opened = c.args.opened.now in
    let before = g.E.Write.contents c.args.events.now.writer in
    let mid = g.E.Write.contents c.note_upgrade.new.events.writer in
    let after = g.E.Write.contents c.note_opened.new.events.writer in
    let (h, held, noted) = c.note_opened.ensures.noted in (
      h,
      held,
      on-opens c.args.events.now.level c.is_on.result opened h before mid after c.is_on.ensures c.if-not-is_on.false c.note_upgrade.ensures.noted
          (subst (λ (level : Level). NotesAll level mid after (opening_line opened h ∷ [])) c.note_upgrade.ensures.level noted),
    )
