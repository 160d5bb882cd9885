use Rattle.std.proofs.Common.{◌≡◌, fold, map, take}
use Rattle.store_data.specs.Groups.{with_key}
use Rattle.book_lines.specs.Keyed.{ArePlaces}
use Rattle.book_lines.proofs.clients.add_clients.Given as goal

abbrev pub invariant-loop-row : goal.invariant-loop-row
invariant-loop-row g l = (l.names.items ≡ fold with_key l.fn.names.items (map g.T.OfClient.client (take l.row-index l.rows))) × ArePlaces l.places l.names.items
