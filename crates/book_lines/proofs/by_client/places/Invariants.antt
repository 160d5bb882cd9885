use Rattle.std.proofs.Common.{◌≡◌, map, take}
use Rattle.book_lines.specs.Keyed.{place_of}
use Rattle.book_lines.proofs.by_client.places.Given as goal

abbrev pub invariant-loop-row : goal.invariant-loop-row
invariant-loop-row g l = l.keyed.items ≡ map (λ row. (place_of l.clients.names.items (g.T.OfClient.client row), row)) (take l.row-index l.rows)
