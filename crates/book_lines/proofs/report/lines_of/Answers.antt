use Rattle.std.proofs.Common.{◌≡◌, ℕ, List, ap, ◌∙◌, subst, sym}
use Rattle.std.specs.Prelude.{filter}
use Rattle.table_rows.specs.Keys.{is_record_of}
use Rattle.table_rows.specs.Tables.{StoredBatch, StoredSession, Tables}
use Rattle.audit_laws.specs.Audited.{is_session_of}
use Rattle.book_lines.specs.Keyed.{AreKeyed}
use Rattle.book_lines.proofs.ReportLemmas.{line_more, own_named}
use Rattle.book_lines.proofs.report.lines_of.Goals as goal

pub line_of-requires-clause-name : goal.line_of-requires-clause-name
line_of-requires-clause-name c =
    let t = c.args.tables.now in
    let b = c.args.batch.now in
    let records = c.range_of-records.result.now in
    let own : records ≡ filter (is_record_of b.id) t.records =
    c.range_of-records.ensures ∙ ap (filter (is_record_of c.batch.inside.id)) (c.deref-2.ensures.value ∙ ap (λ (u : Tables). u.records) c.tables.view_is)
    ∙ ap (λ (x : StoredBatch). filter (is_record_of x.id) t.records) c.batch.view_is in
    own_named t c.requires.audited b.id records own c.loop-rec.rec-index c.rec-item.result c.loop-rec-test.true c.rec-item.is

pub loop-rec-preserved : goal.loop-rec-preserved
loop-rec-preserved c =
    let t = c.args.tables.now in
    let b = c.args.batch.now in
    let records = c.range_of-records.result.now in
    let keyed = c.in_ok-by_place.by_place.items in
    let place = λ (s : StoredSession). s.place in
    let own : records ≡ filter (is_record_of b.id) t.records =
    c.range_of-records.ensures ∙ ap (filter (is_record_of c.batch.inside.id)) (c.deref-2.ensures.value ∙ ap (λ (u : Tables). u.records) c.tables.view_is)
    ∙ ap (λ (x : StoredBatch). filter (is_record_of x.id) t.records) c.batch.view_is in
    let sessions : filter (is_session_of c.batch.inside.id) c.deref.result.now ≡ filter (is_session_of b.id) t.sessions =
    ap (filter (is_session_of c.batch.inside.id)) (c.deref.ensures.value ∙ ap (λ (u : Tables). u.sessions) c.tables.view_is)
    ∙ ap (λ (x : StoredBatch). filter (is_session_of x.id) t.sessions) c.batch.view_is in
    c.in_ok-push.ensures.items
    ∙ line_more t c.requires.audited b.id records own c.loop-rec.rec-index c.rec-item.result c.loop-rec-test.true c.rec-item.is keyed
    (subst (λ (ss : List StoredSession). AreKeyed place ss keyed) sessions c.in_ok-by_place.ensures) c.loop-rec.lines.items c.line_of.result c.loop-rec.invariant
    (λ audited keys.
    c.line_of.ensures t audited
    (subst (λ (ks : List (ℕ × StoredSession)). AreKeyed place (filter (is_session_of c.rec-item.result.batch) t.sessions) ks) (sym c.deref-in-loop-rec.ensures.value) keys))
