use Rattle.std.proofs.Common.{rules}
use Rattle.std.proofs.lemmas.Iterator.{YieldsList-from_map_by, YieldsList-from_slice}
use Rattle.std.proofs.lemmas.Iterator.Consumers.{YieldsList-at, map_from_collect}
use Rattle.audit_rows.specs.Clients.{named}
use Rattle.audit_rows.proofs.ReplyLemmas.{number_of}
use Rattle.audit_rows.proofs.replies.numbers_of.Goals as goal

pub returns : goal.returns
returns c =
    map_from_collect _ c.collect.ensures.ran
    (YieldsList-from_map_by _ named number_of (YieldsList-at c.map.ensures.source (YieldsList-from_slice c.args.replies.now c.iter.ensures.rest)) c.map.ensures.closure (λ x r q k. search rules))
