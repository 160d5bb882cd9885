use Rattle.std.specs.Prelude.{filter}
use Rattle.table_rows.specs.Tables.{StoredSession}
use Rattle.audit_laws.specs.Audited.{is_session_of}
use Rattle.book_lines.proofs.KeyedLemmas.{keyed_of}
use Rattle.book_lines.proofs.keyed.by_place.Goals as goal

pub returns : goal.returns
returns c =
    keyed_of (λ (s : StoredSession). s.place) (filter (is_session_of c.args.batch) c.args.sessions.now) c.in_ok-keyed.keyed.items c.sort_rows.new.rows.items c.in_ok-keyed.ensures
    c.in_ok-sort_rows.ensures.ordered c.sort_rows.ensures.stable
