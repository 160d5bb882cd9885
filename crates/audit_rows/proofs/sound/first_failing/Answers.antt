use Rattle.image_laws.specs.Decided.{contents_of}
use Rattle.image_laws.specs.Image.{image}
use Rattle.audit_rows.proofs.AuditLemmas.{rows_pass, rules_hold}
use Rattle.audit_rows.proofs.RuleLemmas.{each_ok, first_found, none_found}
use Rattle.audit_rows.proofs.SoundLemmas.{same_back, same_through}
use Rattle.audit_rows.proofs.sound.first_failing.Goals as goal

pub returns-in_err-sort_tables-clause-same : goal.returns-in_err-sort_tables-clause-same
returns-in_err-sort_tables-clause-same c = same_back _ _ c.sort_tables.ensures.same

pub returns-clause-sound : goal.returns-clause-sound
returns-clause-sound c =
    let old = c.args.tables.now in
    let t = c.sort_tables.new.tables in
    let same = c.sort_tables.ensures.same in
    let sorted = c.in_ok-sort_tables.ensures.sorted in
    none_found t c.failing_rule.result
    (λ held. let a = rows_pass t sorted held in
    (contents_of t, c.audited_rows_are_sound.ensures.sound t a, same_through old t (image (contents_of t)) same (c.audited_rows_are_sound.ensures.image t a)))
    (λ w. rules_hold t (c.sound_rows_are_audited.ensures w.0 t w.1 sorted.in_order (same_through t old (image w.0) (same_back old t same) w.2)))
    c.failing_rule.ensures

pub returns-clause-first : goal.returns-clause-first
returns-clause-first c = first_found c.sort_tables.new.tables c.failing_rule.result c.failing_rule.ensures

pub returns-clause-sorted : goal.returns-clause-sorted
returns-clause-sorted c = each_ok c.failing_rule.result c.in_ok-sort_tables.ensures.sorted

pub returns-clause-same : goal.returns-clause-same
returns-clause-same c = same_back _ _ c.sort_tables.ensures.same
