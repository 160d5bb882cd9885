use Rattle.std.proofs.Common.{◌≡◌, map, take}
use Rattle.job_facts.specs.Accounts.{record_line}
use Rattle.list_store.proofs.accounts.record_lines.Given as goal

abbrev pub invariant-loop-rec : goal.invariant-loop-rec
invariant-loop-rec l = l.lines.items ≡ map (record_line l.facts l.batch) (take l.rec-index l.rec-items)
