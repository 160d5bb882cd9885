use Rattle.std.proofs.Common.{take}
use Rattle.audit_rows.specs.Rules.{AllHold, rules}
use Rattle.audit_rows.proofs.audit.failing_rule.Given as goal

abbrev pub invariant-loop-rule : goal.invariant-loop-rule
invariant-loop-rule l = AllHold (take l.rule-index rules) l.tables
