use Rattle.std.proofs.Common.{rules}
use Rattle.std.proofs.lemmas.Iterator.{YieldsList-from_map_by, YieldsList-from_slice, items_from_drains}
use Rattle.std.proofs.lemmas.Iterator.Consumers.{YieldsList-at}
use Rattle.std.proofs.lemmas.Result.{IfOk-weaker}
use Rattle.audit_rows.specs.Clients.{named}
use Rattle.audit_rows.proofs.ReplyLemmas.{mark_is, pair_of}
use Rattle.audit_rows.proofs.replies.by_client.Goals as goal

pub returns : goal.returns
returns c =
    let marks = c.args.marks.now in
    IfOk-weaker c.collect.result _ _
    (λ uptos ran. mark_is marks ran.0
    (items_from_drains ran.0 ran.1 (YieldsList-from_map_by _ named pair_of (YieldsList-at c.map.ensures.source (YieldsList-from_slice marks c.iter.ensures.rest)) c.map.ensures.closure (λ x r q k. search rules)))
    c.requires uptos ran.2)
    c.collect.ensures.ran
