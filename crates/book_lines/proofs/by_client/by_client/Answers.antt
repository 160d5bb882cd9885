use Rattle.std.proofs.Common.{List, ap, ◌∙◌, subst}
use Rattle.job_facts.specs.Contents.{Entry, Mark}
use Rattle.table_rows.specs.Tables.{StoredSession, Tables}
use Rattle.book_lines.specs.Keyed.{AreKeyed, place_of}
use Rattle.book_lines.proofs.by_client.by_client.Goals as goal

pub invariant_of-result-clause-clients_are : goal.invariant_of-result-clause-clients_are
invariant_of-result-clause-clients_are c = c.in_ok-clients.ensures

pub invariant_of-result-clause-sessions_are : goal.invariant_of-result-clause-sessions_are
invariant_of-result-clause-sessions_are c =
    subst (λ (rows : List StoredSession). AreKeyed (λ (s : StoredSession). place_of c.in_ok-clients.clients.names.items s.machine) rows c.in_ok-sessions.sessions.items)
    (c.deref.ensures.value ∙ ap (λ (t : Tables). t.sessions) c.tables.view_is) c.in_ok-sessions.ensures

pub invariant_of-result-clause-replies_are : goal.invariant_of-result-clause-replies_are
invariant_of-result-clause-replies_are c =
    subst (λ (rows : List Entry). AreKeyed (λ (e : Entry). place_of c.in_ok-clients.clients.names.items e.client) rows c.in_ok-replies.replies.items)
    (c.deref-2.ensures.value ∙ ap (λ (t : Tables). t.replies) c.tables.view_is) c.in_ok-replies.ensures

pub invariant_of-result-clause-marks_are : goal.invariant_of-result-clause-marks_are
invariant_of-result-clause-marks_are c =
    subst (λ (rows : List Mark). AreKeyed (λ (m : Mark). place_of c.in_ok-clients.clients.names.items m.client) rows c.in_ok-marks.marks.items)
    (c.deref-3.ensures.value ∙ ap (λ (t : Tables). t.marks) c.tables.view_is) c.in_ok-marks.ensures
