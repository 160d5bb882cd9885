-- The received bytes of a connection, and the state of its message (this project's profile).
use Rattle.std.specs.Prelude.{◌≡◌, ℕ, [], ◌++◌, ◌||◌, ◌&&◌, ◌==◌, not, drop, length, Bool, true, false, List, Option, None, Some, is_some}
use Rattle.http_messages.specs.declared.settled.Progress.{Progress}
use Rattle.http_messages.specs.declared.settled.Progress.TheVariants.{Head, Body, Message, Refused}
use Rattle.loopback.specs.declared.arrived.Arrived.{Arrived}
use Rattle.loopback.specs.declared.arrived.Stop.{Stop}
use Rattle.loopback.specs.declared.arrived.Stop.TheVariants.{Ended, Late, Memory}

-- the received bytes of `a`
abbrev pub bytes_of : Arrived → List ℕ
bytes_of a = a.front.bytes.items ++ a.rest.items

-- all bytes of the message were received
abbrev pub is_message : Progress → Bool
is_message Head = false
is_message (Body total) = false
is_message Message = true
is_message Refused = false

-- further bytes change neither the message nor its refusal
abbrev pub is_decided : Progress → Bool
is_decided Head = false
is_decided (Body total) = false
is_decided Message = true
is_decided Refused = true

-- all bytes of the message of `a` were received
abbrev pub is_complete : Arrived → Bool
is_complete a = is_message a.progress

-- the message of `a` is decided, or no more of its bytes are read
abbrev pub is_settled : Arrived → Bool
is_settled a = is_decided a.progress || is_some a.stop

-- the reading stopped because an allocation failed, so that later bytes are lost
abbrev pub is_cut_by : Option Stop → Bool
is_cut_by None = false
is_cut_by (Some Ended) = false
is_cut_by (Some Late) = false
is_cut_by (Some Memory) = true

-- no bytes of `a` were received, and some may still arrive
abbrev pub is_silent : Arrived → Bool
is_silent a = length (bytes_of a) == 0 && not (is_settled a)

-- `piece` is a part of `bytes` that starts at `at`, and it is empty only at the end of `bytes`
abbrev pub IsPiece : List ℕ → ℕ → List ℕ → Type 0
IsPiece bytes at piece = (rest : List ℕ) × (drop at bytes ≡ piece ++ rest) × (piece ≡ [] → rest ≡ [])
