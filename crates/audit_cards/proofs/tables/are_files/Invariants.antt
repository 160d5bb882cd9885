use Rattle.std.proofs.Common.{All, take}
use Rattle.audit_cards.specs.Sessions.{IsAuditedFile}
use Rattle.audit_cards.proofs.tables.are_files.Given as goal

abbrev pub invariant-loop-batch : goal.invariant-loop-batch
invariant-loop-batch l = All (IsAuditedFile l.tables) (take l.batch-index l.batches)
