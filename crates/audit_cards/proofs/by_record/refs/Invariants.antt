use Rattle.std.proofs.Common.{◌≡◌, take}
use Rattle.audit_cards.proofs.by_record.refs.Given as goal

abbrev pub invariant-loop-row : goal.invariant-loop-row
invariant-loop-row l = l.refs.items ≡ take l.row-index l.sessions
