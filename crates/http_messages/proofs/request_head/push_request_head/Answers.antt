use Rattle.std.proofs.Common.{append_assoc}
use Rattle.http_messages.specs.RequestHeads.{request_head}
use Rattle.http_messages.proofs.request_head.push_request_head.Goals as goal

pub returns-clause-text : goal.returns-clause-text
unfolding request_head
returns-clause-text c = simp (
  c.in_ok-extend_from_slice-5.ensures.items,
  c.in_ok-extend_from_slice-4.ensures.items,
  c.as_bytes.ensures.value,
  c.format.ensures.text,
  c.in_ok-extend_from_slice-3.ensures.items,
  c.in_ok-extend_from_slice-2.ensures.items,
  c.in_ok-extend_from_slice.ensures.items,
  append_assoc,
)
