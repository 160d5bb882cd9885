use Rattle.std.proofs.Common.{List, ℕ, subst, ◌∙◌}
use Rattle.text_io.specs.Written.{Writes}
use Rattle.server.proofs.Writing.{joined}
use Rattle.server.proofs.reply.write_joined.Goals as goal

pub returns : goal.returns
returns g c =
    let w = g.W.Write.contents in
    subst (λ (text : List ℕ). Writes (w c.args.writer.now) (w c.write_text.new.writer) text c.write_text.result)
    (c.as_slice.ensures.value ∙ joined c.args.head.now c.args.body.now _ _ _ c.new-text.ensures c.add.ensures c.add-2.ensures c.requires.head c.requires.body) c.write_text.ensures
