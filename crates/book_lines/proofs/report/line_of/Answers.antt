use Rattle.std.proofs.Common.{◌≡◌, ◌==◌, ℕ, List, length, ap, ◌∙◌}
use Rattle.std.specs.Prelude.{filter, find, option_map}
use Rattle.job_facts.specs.declared.rows.RecordLine.{RecordLine}
use Rattle.table_rows.specs.Tables.{StoredRecord, StoredSession}
use Rattle.book_lines.proofs.ReportLemmas.{is_good_one, line_is, own}
use Rattle.book_lines.proofs.report.line_of.Goals as goal

pub returns : goal.returns
returns c = λ t audited keyed.
    let r = c.args.rec.now in
    let sessions = c.range_of-sessions.result.now in
    let its : sessions ≡ own t r c.args.by_place.now keyed =
    c.range_of-sessions.ensures ∙ ap (λ (x : StoredRecord). filter (λ (k : ℕ × StoredSession). k.0 == x.place) c.args.by_place.now) c.rec.view_is in
    let name : c.name_of.result ≡ r.name = c.name_of.ensures ∙ c.deref.ensures.value ∙ ap (λ (x : StoredRecord). x.name) c.rec.view_is in
    let line : StoredRecord → RecordLine = λ x. record { rec = c.name_of.result; stands = x.state; sessions = length sessions; blank = c.good_serial.result } in
    ap line c.rec.view_is
    ∙ line_is t r c.args.by_place.now keyed audited c.name_of.result (length sessions) c.good_serial.result name (ap length its)
    (c.good_serial.ensures ∙ ap (λ (ks : List (ℕ × StoredSession)). option_map (λ (k : ℕ × StoredSession). k.1.serial) (find (is_good_one t r c.args.by_place.now keyed) ks)) its)
