-- The time limits of connections, and the pauses before a message is sent again, in nanoseconds
-- (this project's profile).
use Rattle.std.specs.Prelude.{ℕ, zero, suc, ◌+◌, ◌-◌, ◌*◌, ◌^◌, ◌||◌, Bool, min, nat_le}
use Rattle.loopback.specs.declared.clock.Side.{Side}
use Rattle.loopback.specs.declared.clock.Side.TheVariants.{Server, Machine}

-- the time limit of a single read or write
abbrev pub most_wait : Side → ℕ
most_wait Server = 5_000_000_000
most_wait Machine = 60_000_000_000

-- the time limit of a whole message or a whole response, and for a driver of both together
abbrev pub most_time : Side → ℕ
most_time Server = 10_000_000_000
most_time Machine = 60_000_000_000

-- the rest of the time limit of a message or a response that was begun at `begun`, but at most the
-- time limit of a single read or write
abbrev pub wait_at : Side → ℕ → ℕ → ℕ
wait_at side begun now = min (most_time side - (now - begun)) (most_wait side)

-- the pause before a message is sent again that was already sent again `sent` times: 10 ms at
-- first, then four times as long every time, up to 16 s
abbrev pub pause_after : ℕ → ℕ
pause_after sent = min (10_000_000 * 4 ^ sent) 16_000_000_000

-- the sum of the pauses if a message is sent again this many times
abbrev pub paused : ℕ → ℕ
paused zero = 0
paused (suc sent) = paused sent + pause_after sent

-- the server has waited too long at `now`: for a whole message since `begun`, or for its next byte
-- since `last`
abbrev pub is_late : ℕ → ℕ → ℕ → Bool
is_late begun last now = nat_le (most_time Server) (now - begun) || nat_le (most_wait Server) (now - last)
