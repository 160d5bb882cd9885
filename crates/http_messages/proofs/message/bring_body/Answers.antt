use Rattle.std.proofs.Common.{rules, ◌++◌, ◌∙◌, ap, length, take, drop}
use Rattle.std.proofs.lemmas.List.{take_at}
use Rattle.http_messages.proofs.BodyLemmas.{body_filled}
use Rattle.http_messages.proofs.message.bring_body.Goals as goal

pub returns-clause-filled : goal.returns-clause-filled
returns-clause-filled g c =
    let brings = g.I.ByteSource.brings in
    let begun = c.copy_from_slice.new.self in
    let back = drop (length (take c.min.result c.args.begun.now)) c.args.body.now in
    let front = take_at begun back (length (take c.min.result c.args.begun.now)) (ap length c.copy_from_slice.ensures.after) ∙ c.copy_from_slice.ensures.after in
    body_filled (brings c.args.incoming.now) (brings c.fill.new.incoming) (length (begun ++ back)) c.min.result c.args.begun.now c.fill.new.buf (begun ++ back) c.fill.result (search rules) (search rules) front (search rules)
    c.fill.ensures.full c.fill.ensures.early
