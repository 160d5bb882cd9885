use Rattle.std.proofs.Common.{◌≡◌, [], ◌∷◌, subst}
use Rattle.std.specs.Prelude.{IfOk}
use Rattle.std.proofs.KnownBytes.{Keeps-refl}
use Rattle.text_io.specs.Written.{AppendsBeginning, line}
use Rattle.event_lines.specs.Views.{text_of}
use Rattle.event_lines.proofs.NotesLemmas.{lost-all, one-noted}
use Rattle.event_lines.proofs.log.EventLog.note.Goals as goal

pub returns-then-not-is_on-clause-noted : goal.returns-then-not-is_on-clause-noted
returns-then-not-is_on-clause-noted g c text is = lost-all _ _ _ (text ∷ []) (Keeps-refl (g.W.Write.contents c.args.self.now.writer))

pub returns-in-Ok-clause-noted : goal.returns-in-Ok-clause-noted
returns-in-Ok-clause-noted g c text is =
    let w = g.W.Write.contents in
    one-noted c.args.self.now.level (w c.args.self.now.writer) (w c.write_line.new.writer) text (c.is_on.ensures.0 c.if-not-is_on.false)
    (subst (λ t. AppendsBeginning (w c.args.self.now.writer) (w c.write_line.new.writer) (line t)) (subst (λ r. IfOk r (λ made. text_of made ≡ text)) c.in-Ok.is is) c.write_line.ensures)

pub returns-in_default-clause-noted : goal.returns-in_default-clause-noted
returns-in_default-clause-noted g c text is = lost-all _ _ _ (text ∷ []) (Keeps-refl (g.W.Write.contents c.args.self.now.writer))
