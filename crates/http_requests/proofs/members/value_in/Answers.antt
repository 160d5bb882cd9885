use Rattle.std.proofs.Common.{sym}
use Rattle.std.proofs.lemmas.Bool.{iff_false}
use Rattle.http_requests.proofs.RequestLemmas.{value_in-read, value_in-unread}
use Rattle.http_requests.proofs.members.value_in.Goals as goal

pub returns-in-Ok : goal.returns-in-Ok
returns-in-Ok c = sym (value_in-read _ _ c.in-Ok.ensures.ok.0 c.in-Ok.ensures.ok.1)

pub returns-else-is_memory : goal.returns-else-is_memory
returns-else-is_memory c = sym (value_in-unread _ (c.in-Err.ensures.err (iff_false c.is_memory.ensures c.if-is_memory.false)))
