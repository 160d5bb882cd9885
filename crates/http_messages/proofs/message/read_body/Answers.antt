use Rattle.std.proofs.Common.{rules}
use Rattle.http_messages.proofs.BodyLemmas.{some_bytes}
use Rattle.http_messages.proofs.message.read_body.Goals as goal

pub returns-in_err-body-clause-body : goal.returns-in_err-body-clause-body
returns-in_err-body-clause-body g c =
    let some = some_bytes (g.I.ByteSource.brings c.args.incoming.now) in
    (some.0, some.1, search rules)
