-- The lines that deliver a packet or send a request to the server.
use Rattle.std.proofs.Common.{◌≡◌, ℕ, List, Option, Some, sym, subst}
use Rattle.job_facts.specs.Store.{State}
use Rattle.feeder.specs.declared.world.Stop.{Stop}
use Rattle.drill.specs.declared.sent.Packet.{Packet}
use Rattle.drill.specs.Floors.{Floor, packet_at}
use Rattle.drill.specs.declared.delivery.Delivery.{Delivery}
use Rattle.drill.specs.Steps.{AsksBy, Brings, Delivers, LineEffect}

-- A delivery that names packet `p` has the effect of delivering `p`.
pub delivers_by : {S : Type 0} (state : S → State) (old new : S) (fl : Floor) (d : Delivery) (stop : Stop) (p : Packet) (did : Option LineEffect) → d.stop ≡ stop → packet_at fl d.packet ≡ Some p
    → Brings state old new fl stop (Some p) did → Delivers state old new fl d did
delivers_by state old new fl d stop p did is there brings =
    subst (λ x. Brings state old new fl x (packet_at fl d.packet) did) (sym is) (subst (λ o. Brings state old new fl stop o did) (sym there) brings)

-- A request has the effect of serving its message.
pub asks_by : {S : Type 0} (state : S → State) (old new : S) (fl : Floor) (behind : List (List ℕ)) (asked : Option (List ℕ × List (List ℕ))) (message : List ℕ) (left : List (List ℕ)) (did : Option LineEffect)
    → asked ≡ Some (message, left) → AsksBy state old new fl behind (Some (message, left)) did → AsksBy state old new fl behind asked did
asks_by state old new fl behind asked message left did is asks = subst (λ o. AsksBy state old new fl behind o did) (sym is) asks
