-- The bytes of a connection that are discarded after its response (this project's profile).
use Rattle.std.specs.Prelude.{ℕ, ◌+◌}
use Rattle.text_io.specs.Inputs.{most_input}

-- the maximum number of bytes that are discarded: the largest head and the largest body
abbrev pub most_drained : ℕ
most_drained = most_input + 8192
