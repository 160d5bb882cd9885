use Rattle.std.proofs.Common.{Bor, List, ℕ, rules}
use Rattle.std.proofs.lemmas.Iterator.{YieldsList-from_map_by, YieldsList-from_slice}
use Rattle.std.proofs.lemmas.Iterator.Consumers.{YieldsList-at, map_from_collect}
use Rattle.job_facts.specs.Contents.{Mark}
use Rattle.audit_rows.proofs.replies.clients_of.Goals as goal

pub returns : goal.returns
returns c =
    map_from_collect _ c.collect.ensures.ran
    (YieldsList-from_map_by _ (λ (name : Bor (List ℕ)). name.now) (λ (m : Mark). m.client) (YieldsList-at c.map.ensures.source (YieldsList-from_slice c.args.marks.now c.iter.ensures.rest)) c.map.ensures.closure (λ x r q k. search rules))
