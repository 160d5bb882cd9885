use Rattle.audit_cards.proofs.RowLemmas.{name_decides}
use Rattle.audit_cards.proofs.files.is_at.Goals as goal

pub returns-in-Some : goal.returns-in-Some
returns-in-Some c =
    name_decides c.args.names.now c.args.place c.in-Some.other.now c.args.name.now c.eq.result c.in-Some.ensures.lookup.0 c.in-Some.ensures.lookup.1 c.eq.ensures
