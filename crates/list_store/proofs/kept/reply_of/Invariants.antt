use Rattle.std.proofs.Common.{◌≡◌, drop}
use Rattle.job_facts.specs.Contents.{entry_of}
use Rattle.list_store.proofs.kept.reply_of.Given as goal

-- No reply before this one has the client and the request number.
abbrev pub invariant-loop-row : goal.invariant-loop-row
invariant-loop-row l = entry_of (drop l.row-index l.rows) l.client l.number ≡ entry_of l.rows l.client l.number
