use Rattle.std.proofs.Common.{Option, ap, subst, ◌∙◌}
use Rattle.event_lines.specs.Notes.{NotesAll}
use Rattle.store_data.specs.declared.row.Product.{Product}
use Rattle.import_causes.specs.Explanations.{refused_lines}
use Rattle.http_messages.specs.ReplyParts.{body_behind}
use Rattle.server_run.specs.ImportLines.{words_lines}
use Rattle.server_run.specs.Words.{RefusalWords, refusal_in}
use Rattle.server_run.proofs.import.note_words.Goals as goal

pub returns-in-Some-clause-noted : goal.returns-in-Some-clause-noted
returns-in-Some-clause-noted g c =
    let before = g.E.Write.contents c.args.events.now.writer in
    let after = g.E.Write.contents c.note_refused.new.events.writer in
    let body = c.reply_parts-parts.ensures.body ∙ ap body_behind c.as_slice.ensures.value in
    subst (λ (words : Option RefusalWords). NotesAll c.args.events.now.level before after (words_lines c.args.product.now c.args.raw.now words))
    (c.in-Some.ensures ∙ ap refusal_in body)
    (subst (λ (p : Product). NotesAll c.args.events.now.level before after (refused_lines c.args.raw.now p c.in-Some.name.now)) c.product.ensures.value c.note_refused.ensures.noted)
