use Rattle.std.proofs.Common.{◌≡◌, map, take}
use Rattle.std.specs.Prelude.{filter}
use Rattle.table_rows.specs.Tables.{StoredSession}
use Rattle.audit_laws.specs.Audited.{is_session_of}
use Rattle.book_lines.proofs.keyed.places.Given as goal

abbrev pub invariant-loop-row : goal.invariant-loop-row
invariant-loop-row l = l.keyed.items ≡ map (λ (s : StoredSession). (s.place, s)) (filter (is_session_of l.batch) (take l.row-index l.sessions))
