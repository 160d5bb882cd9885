use Rattle.std.proofs.Common.{All, take}
use Rattle.audit_cards.specs.Sessions.{IsAuditedWith}
use Rattle.audit_cards.proofs.batches.are_audited.Given as goal

abbrev pub invariant-loop-place : goal.invariant-loop-place
invariant-loop-place l = All (IsAuditedWith l.audited.tables.now) (take l.place l.records)
