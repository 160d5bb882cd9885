use Rattle.std.proofs.Common.{◌≡◌, map, take}
use Rattle.httparse.specs.Spans.{header_bytes}
use Rattle.http_messages.specs.HeadTests.{found_of, values}
use Rattle.http_messages.proofs.head.find_named.Given as goal

abbrev pub invariant-loop-header : goal.invariant-loop-header
invariant-loop-header l = found_of l.found ≡ values l.name (map (header_bytes l.head) (take l.header-index l.headers))
