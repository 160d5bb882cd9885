use Rattle.std.proofs.Common.{◌≡◌, ℕ, [], arith, subst, take}
use Rattle.audit_rows.specs.Rules.{AllHold, rules}
use Rattle.audit_rows.proofs.AuditLemmas.{each_ready}
use Rattle.audit_rows.proofs.RuleLemmas.{broken, fails_at, ready_at}
use Rattle.audit_rows.proofs.audit.failing_rule.Goals as goal

pub holds-requires : goal.holds-requires
holds-requires c = ready_at c.args.tables.now [] rules (each_ready c.args.tables.now c.requires) c.loop-rule.rule-index _ c.loop-rule-test.true c.loop-rule.invariant

pub returns-then-not-branch : goal.returns-then-not-branch
returns-then-not-branch c = fails_at c.args.tables.now rules c.loop-rule.rule-index _ c.loop-rule-test.true c.loop-rule.invariant (broken c.if-not-branch.true c.in_ok-holds.ensures)

pub returns : goal.returns
returns c =
    let all : c.loop-rule.rule-index ≡ 19 = omega (arith, c.loop-rule-test.false, c.loop-rule.auto.rule-index-end) in
    subst (λ (k : ℕ). AllHold (take k rules) c.args.tables.now) all c.loop-rule.invariant
