use Rattle.std.proofs.Common.{Ok, ap, subst}
use Rattle.http_messages.specs.Heads.{IsJudged}
use Rattle.http_messages.specs.HeadTests.{parts}
use Rattle.http_messages.proofs.BodyLemmas.{rest_read, rest_refused}
use Rattle.http_messages.proofs.message.read_rest.Goals as goal

pub returns-in-Ok-read_body : goal.returns-in-Ok-read_body
returns-in-Ok-read_body g c =
    let cut = g.I.ByteSource.cut in
    rest_read (cut c.args.incoming.now) (cut c.read_body.new.incoming) (g.I.ByteSource.brings c.args.incoming.now) c.args.head.now c.args.begun.now c.in-Ok.head.size (parts (Ok c.in-Ok.head)) c.read_body.result c.in-Ok-read_body.body c.with_body.result
    c.read_body.ensures.cut (subst (λ r. IsJudged c.args.head.now (parts r)) c.in-Ok.is c.judge.ensures) c.in-Ok-read_body.is c.read_body.ensures.body c.with_body.ensures.read

pub returns-in-Err : goal.returns-in-Err
returns-in-Err g c = rest_refused (g.I.ByteSource.cut c.args.incoming.now) (g.I.ByteSource.brings c.args.incoming.now) c.args.head.now c.args.begun.now (parts c.judge.result) c.in-Err.why c.judge.ensures (ap parts c.in-Err.is)
