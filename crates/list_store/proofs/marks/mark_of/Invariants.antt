use Rattle.std.proofs.Common.{◌≡◌, drop}
use Rattle.job_facts.specs.Contents.{mark_of}
use Rattle.list_store.proofs.marks.mark_of.Given as goal

-- No mark before this one belongs to the client.
abbrev pub invariant-loop-mark : goal.invariant-loop-mark
invariant-loop-mark l = mark_of (drop l.mark-index l.marks) l.client ≡ mark_of l.marks l.client
