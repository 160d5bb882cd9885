use Rattle.std.proofs.Common.{◌≡◌, ℕ, ◌≤◌, length, true}
use Rattle.json.specs.Json.{members, value}
use Rattle.serde_json.specs.Data.{Members}
use Rattle.serde_json.specs.Read.{converted, of_members}
use Rattle.serde_json.specs.View.{members_view}
use Rattle.http_requests.specs.Bodies.{are_known, members_at, primitives_of}
use Rattle.http_requests.proofs.body.read_members.Given as goal

-- `old` has the members that were read
abbrev pub invariant-members : goal.invariant-members
invariant-members l =
    (n : ℕ) × (old : Members) × (length l.reader ≤ n) × (members_at 126 l.initial.reader ≡ converted (λ ms. of_members ms old) (members (value 126) n l.reader)) × (are_known old ≡ true)
    × (members_view l.found.entries ≡ primitives_of old)

abbrev pub decreases-members : goal.decreases-members
decreases-members l = length l.reader
