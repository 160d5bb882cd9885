use Rattle.http_messages.proofs.BodyLemmas.{heard_broken, heard_head, heard_large}
use Rattle.http_messages.proofs.message.read_message.Goals as goal

pub returns-in-Head : goal.returns-in-Head
returns-in-Head g c =
    let brings = g.I.ByteSource.brings in
    let cut = g.I.ByteSource.cut in
    let head = c.in-Head.ensures.head in
    heard_head (cut c.args.incoming.now) (cut c.read_head.new.incoming) (brings c.args.incoming.now) (brings c.read_head.new.incoming) c.read_head.new.buf c.in-Head.end c.in-Head.filled c.read_rest.result
    c.in-Head.ensures.cut c.read_head.array_long head.0 head.1 head.2 head.3 c.read_rest.ensures

pub returns-in-Broken : goal.returns-in-Broken
returns-in-Broken g c = heard_broken (g.I.ByteSource.cut c.args.incoming.now) (g.I.ByteSource.brings c.args.incoming.now) c.in-Broken.ensures.head

pub returns-in-HeadTooLarge : goal.returns-in-HeadTooLarge
returns-in-HeadTooLarge g c =
    let brings = g.I.ByteSource.brings in
    heard_large (brings c.args.incoming.now) (brings c.read_head.new.incoming) c.read_head.new.buf c.read_head.array_long c.in-HeadTooLarge.ensures.head.0 c.in-HeadTooLarge.ensures.head.1
