-- Every list of events keeps `Fine` true.
use Rattle.std.proofs.Common.{◌≡◌, ℕ, true, List, [], ◌∷◌, All, Option}
use Rattle.std.specs.Prelude.{bytes_eq}
use Rattle.std.proofs.lemmas.Bool.{or_left, or_right}
use Rattle.std.proofs.lemmas.List.Elements.{All-head, All-tail}
use Rattle.job_facts.specs.declared.reply.Reply.{Reply}
use Rattle.arrivals.specs.HttpReplies.{HttpReply}
use Rattle.feeder.specs.Reading.{ReadsBack}
use Rattle.feeder.specs.declared.world.Event.{Event}
use Rattle.feeder.specs.declared.world.Event.TheVariants as event
use Rattle.feeder.specs.World.{World, at_first, happens, is_name_of, machines_of, run, world_after}
use Rattle.feeder.specs.ShopFloor.{IsEvent}
use Rattle.feeder.proofs.Fine.{Fine}
use Rattle.feeder.proofs.Going.{name_same}
use Rattle.feeder.proofs.Events.{IsListed, happens_fine, start_fine}

-- the names of all machines that are started in `es` are in `names`
abbrev AreListed : List (List ℕ) → List Event → Type 0
AreListed names es = (m : List ℕ) → is_name_of (machines_of es) m ≡ true → is_name_of names m ≡ true

listed_now : (names : List (List ℕ)) (e : Event) (es : List Event) → AreListed names (e ∷ es) → IsListed names e
listed_now names (event.Power machine boot) es listed = listed machine (or_left (bytes_eq machine machine) (is_name_of (machines_of es) machine) (name_same machine))
listed_now names _ es listed = tt

listed_then : (names : List (List ℕ)) (e : Event) (es : List Event) → AreListed names (e ∷ es) → AreListed names es
listed_then names (event.Power machine boot) es listed = λ m is. listed m (or_right (bytes_eq m machine) (is_name_of (machines_of es) m) is)
listed_then names _ es listed = listed

run_fine : (names : List (List ℕ)) (reads : HttpReply → Option Reply) (es : List Event) (w : World) → ReadsBack reads → All IsEvent es → AreListed names es
    → Fine names w → Fine names (run reads names es w)
run_fine names reads [] w back each listed fine = fine
run_fine names reads (e ∷ es) w back each listed fine =
    run_fine names reads es (happens reads names w e) back (All-tail IsEvent e es each) (listed_then names e es listed)
    (happens_fine names reads w e back (All-head IsEvent e es each) (listed_now names e es listed) fine)

pub world_fine : (reads : HttpReply → Option Reply) (events : List Event) → ReadsBack reads → All IsEvent events
    → Fine (machines_of events) (world_after reads events)
world_fine reads events back each = run_fine (machines_of events) reads events at_first back each (λ m is. is) (start_fine (machines_of events))
