use Rattle.audit_cards.proofs.BatchLemmas.{by_last}
use Rattle.audit_cards.proofs.batches.are_placed.Goals as goal

pub returns-in-Some : goal.returns-in-Some
returns-in-Some c =
    by_last c.args.sessions.now c.requires c.in-Some.last.now c.in-Some.ensures.item.0 c.in-Some.ensures.item.1 c.place.result c.args.records c.place.ensures
