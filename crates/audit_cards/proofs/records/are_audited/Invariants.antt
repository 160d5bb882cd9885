use Rattle.std.proofs.Common.{All, take}
use Rattle.audit_laws.specs.Audited.{IsAuditedSession}
use Rattle.audit_cards.proofs.records.are_audited.Given as goal

abbrev pub invariant-loop-session : goal.invariant-loop-session
invariant-loop-session l = All (IsAuditedSession l.tables) (take l.session-index l.own)
