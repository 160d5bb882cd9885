use Rattle.std.proofs.Common.{◌≡◌, ℕ, ◌+◌, ◌*◌, ◌≤◌, length}
use Rattle.json.specs.Json.{items, members, value, parse_map}
use Rattle.serde_json.specs.Data.{Items, Members}
use Rattle.serde_json.specs.Read.{converted, of_items, of_members}
use Rattle.http_requests.specs.Bodies.{items_at, members_at}
use Rattle.http_requests.proofs.body.+value.Given as goal

abbrev pub decreases-read_primitive : goal.decreases-read_primitive
decreases-read_primitive l = 2 * l.depth

abbrev pub decreases-skip_items : goal.decreases-skip_items
decreases-skip_items l = 2 * l.depth + 1

abbrev pub decreases-skip_members : goal.decreases-skip_members
decreases-skip_members l = 2 * l.depth + 1

-- `before` puts the values that were read before the rest of the array
abbrev pub invariant-skip_items-items : goal.invariant-skip_items-items
invariant-skip_items-items l =
    (n : ℕ) × (before : Items → Items) × (length l.reader ≤ n) × (items_at l.depth l.initial.reader ≡ parse_map before (converted of_items (items (value l.depth) n l.reader)))
    × (length l.reader ≤ length l.initial.reader)

abbrev pub decreases-skip_items-items : goal.decreases-skip_items-items
decreases-skip_items-items l = length l.reader

-- `old` has the members that were read
abbrev pub invariant-skip_members-members : goal.invariant-skip_members-members
invariant-skip_members-members l =
    (n : ℕ) × (old : Members) × (length l.reader ≤ n) × (members_at l.depth l.initial.reader ≡ converted (λ ms. of_members ms old) (members (value l.depth) n l.reader))
    × (length l.reader ≤ length l.initial.reader)

abbrev pub decreases-skip_members-members : goal.decreases-skip_members-members
decreases-skip_members-members l = length l.reader
