-- The slot for another connection, if at most 128 may be pending (this project's profile).
use Rattle.std.specs.Prelude.{◌≡◌, ◌+◌, ◌<◌, ◌≤◌, ℕ, Bool, false, Option, IfSome}
use Rattle.loopback.specs.declared.slots.Room.{Room}
use Rattle.loopback.specs.declared.slots.Room.TheVariants.{Free, Drain, Pending}

-- All slots are used, and no connection is settled, so none will free its slot by being served.
-- `pending` is the number of connections whose message is being received or waits to be served, and
-- `drains` the number of drained connections.
abbrev pub IsCrowded : ℕ → ℕ → Bool → Type 0
IsCrowded pending drains settled = (128 ≤ pending + drains) × (settled ≡ false)

-- The slot may be used, given these numbers, whether a connection is settled, and the position
-- `silent` of the first pending connection that brought no bytes:
--     `Free`: a free slot
--     `Drain`: the slot of the oldest drained connection, if there is one
--     `Pending`: otherwise the slot at `at`, which is `silent` if there is such a position
abbrev pub IsRoom : ℕ → ℕ → Bool → Option ℕ → Room → Type 0
IsRoom pending drains settled silent Free = pending + drains < 128
IsRoom pending drains settled silent Drain = IsCrowded pending drains settled × (0 < drains)
IsRoom pending drains settled silent (Pending at) = IsCrowded pending drains settled × (drains ≡ 0) × (at < pending) × IfSome silent (λ first. at ≡ first)
