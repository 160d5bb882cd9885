use Rattle.std.proofs.Common.{◌≡◌, take}
use Rattle.audit_cards.specs.Files.{names_in}
use Rattle.audit_cards.proofs.files.names_of.Given as goal

abbrev pub invariant-loop-row : goal.invariant-loop-row
invariant-loop-row l = record {
  seen : l.seen.keys ≡ names_in (take l.row-index l.rows);
  names : l.names.items ≡ names_in (take l.row-index l.rows);
}
