use Rattle.std.proofs.Common.{arith, sym, ◌∙◌}
use Rattle.job_facts.specs.Store.{IsHonest}
use Rattle.reports.proofs.BlankLemmas.{all_counted}
use Rattle.reports.proofs.ReportLemmas.{blank_answered}
use Rattle.reports.proofs.blank_counts.Goals as goal

pub returns-clause-answers : goal.returns-clause-answers
returns-clause-answers g c = λ h k held.
    let early : IsHonest (g.S.JobStore.state c.product.new.self) = omega (arith, c.blank_totals.ensures.leaves.stays.doubts, h) in
    blank_answered k.facts c.args.product.now c.in-Some.field-0 c.in_ok-totals.totals c.in_ok-blank_text.field-0 (g.met.S.JobStore.sound c.args.store.now k held).facts
    (sym (c.in_ok-product.ensures.value early k held) ∙ c.in-Some.is)
    (c.in_ok-totals.ensures.value h k (c.product.ensures.leaves.stays.contents early k held)) c.in_ok-blank_text.ensures

pub returns-clause-all : goal.returns-clause-all
returns-clause-all g c = λ k held. all_counted k.facts c.args.product.now (g.met.S.JobStore.sound c.args.store.now k held).facts

pub returns-in_err-product-clause-all : goal.returns-in_err-product-clause-all
returns-in_err-product-clause-all g c = λ k held. all_counted k.facts c.args.product.now (g.met.S.JobStore.sound c.args.store.now k held).facts

pub returns-in_default-clause-all : goal.returns-in_default-clause-all
returns-in_default-clause-all g c = λ k held. all_counted k.facts c.args.product.now (g.met.S.JobStore.sound c.args.store.now k held).facts

pub returns-in_err-totals-clause-all : goal.returns-in_err-totals-clause-all
returns-in_err-totals-clause-all g c = λ k held. all_counted k.facts c.args.product.now (g.met.S.JobStore.sound c.args.store.now k held).facts

pub returns-in_err-blank_text-clause-all : goal.returns-in_err-blank_text-clause-all
returns-in_err-blank_text-clause-all g c = λ k held. all_counted k.facts c.args.product.now (g.met.S.JobStore.sound c.args.store.now k held).facts
