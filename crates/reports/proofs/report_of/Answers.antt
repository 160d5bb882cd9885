use Rattle.std.proofs.Common.{ℕ, Vec, Global, arith, sym, ap, ◌∙◌}
use Rattle.job_facts.specs.Store.{IsHonest}
use Rattle.reports.specs.Report.{text_with}
use Rattle.reports.proofs.ReportLemmas.{report_answered}
use Rattle.reports.proofs.report_of.Goals as goal

pub returns-clause-answers : goal.returns-clause-answers
returns-clause-answers g c = λ h k held.
    let state = g.S.JobStore.state in
    let late : IsHonest (state c.record_lines.new.self) = omega (arith, c.batch_totals.ensures.leaves.stays.doubts, h) in
    let early : IsHonest (state c.batch.new.self) = omega (arith, c.record_lines.ensures.leaves.stays.doubts, late) in
    let then = c.batch.ensures.leaves.stays.contents early k held in
    report_answered k.facts c.args.batch.now c.in-Some.row c.in_ok-lines.lines.items c.in_ok-totals.totals c.from_vec.result
    (sym (c.in_ok-row.ensures.value early k held) ∙ c.in-Some.is) (c.in_ok-lines.ensures.value late k then)
    (c.in_ok-totals.ensures.value h k (c.record_lines.ensures.leaves.stays.contents late k then))
    (c.from_vec.ensures ∙ ap (λ (v : Vec ℕ Global). v.items) c.into_bytes.ensures.value ∙ c.in_ok-text.ensures
    ∙ ap (λ lines. text_with c.args.batch.now c.in-Some.row lines c.in_ok-totals.totals) c.as_slice.ensures.value)
