use Rattle.audit_laws.specs.Audited.{key_of}
use Rattle.audit_cards.specs.Files.{keys_of}
use Rattle.audit_order.proofs.SameLists.{AreSameBelow}
use Rattle.audit_cards.proofs.files.are_records.Given as goal

abbrev pub invariant-loop-place : goal.invariant-loop-place
invariant-loop-place l = AreSameBelow key_of l.records (keys_of l.id l.names) l.place
