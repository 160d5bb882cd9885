use Rattle.std.proofs.Common.{List, subst, sym}
use Rattle.table_rows.specs.Tables.{StoredSession}
use Rattle.audit_cards.specs.Sessions.{AreByRecord}
use Rattle.audit_cards.proofs.tables.has_files.Goals as goal

pub are_all_files-requires-clause-sessions : goal.are_all_files-requires-clause-sessions
are_all_files-requires-clause-sessions c =
    subst (λ (xs : List StoredSession). AreByRecord c.args.tables.now.sessions xs) (sym c.deref.ensures.value) c.in_ok-by_record.ensures
