use Rattle.audit_cards.specs.Files.{groupings_in}
use Rattle.audit_order.proofs.SameLists.{AreSameBelow}
use Rattle.audit_cards.proofs.files.are_groupings.Given as goal

abbrev pub invariant-loop-place : goal.invariant-loop-place
invariant-loop-place l = AreSameBelow (λ g. g) l.groupings (groupings_in l.id l.rows) l.place
