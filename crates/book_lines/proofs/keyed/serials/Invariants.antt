use Rattle.std.proofs.Common.{◌≡◌, map, take}
use Rattle.table_rows.specs.Tables.{StoredSession}
use Rattle.book_lines.proofs.keyed.serials.Given as goal

abbrev pub invariant-loop-row : goal.invariant-loop-row
invariant-loop-row l = l.keyed.items ≡ map (λ (s : StoredSession). (s.serial, s)) (take l.row-index l.sessions)
