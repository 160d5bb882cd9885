-- The lines of a drill that deliver a packet to the server (this project's profile).
use Rattle.std.specs.Prelude.{ℕ, List, bytes_eq, codes, Option, Some, None, option_map, option_and_then, if◌then◌else◌}
use Rattle.feeder.specs.declared.world.Stop.{Stop}
use Rattle.feeder.specs.declared.world.Stop.TheVariants as stop
use Rattle.drill.specs.Turns.{count_of}
use Rattle.drill.specs.declared.delivery.Delivery.{Delivery}

-- the moment at which the server crashes, if it does: before or after the commit
abbrev pub stop_of : List ℕ → Option Stop
stop_of word =
    if bytes_eq word (codes "deliver") then Some stop.No
    else if bytes_eq word (codes "stop-before") then Some stop.Before
    else if bytes_eq word (codes "stop-after") then Some stop.After
    else None

abbrev pub delivery_to : List ℕ → Stop → Option Delivery
delivery_to words stop = option_map (λ k. record { packet = k; stop = stop }) (count_of words)

-- the delivery of a line with this first word and this rest
abbrev pub delivery_by : List ℕ → List ℕ → Option Delivery
delivery_by word words = option_and_then (delivery_to words) (stop_of word)
