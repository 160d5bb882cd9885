-- The shop floor: machines with their feeders and cards, a network that loses, repeats, delays and
-- reorders packets, and a server that crashes.
use Rattle.std.specs.Prelude.{◌==◌, ◌||◌, ℕ, Bool, true, false, if◌then◌else◌, List, [], ◌∷◌, ◌++◌, bytes_eq, slice_get, Option, Some, None, Result, Ok, Err}
use Rattle.std.specs.List.{list_any}
use Rattle.job_facts.specs.declared.request.Arrival.{Arrival}
use Rattle.job_facts.specs.declared.request.Call.{Call}
use Rattle.job_facts.specs.declared.request.Call.TheVariants.{Job, Release}
use Rattle.job_facts.specs.declared.request.Request.TheVariants as request
use Rattle.job_facts.specs.declared.reply.Reply.{Reply}
use Rattle.job_facts.specs.Contents.{Contents, no_contents}
use Rattle.arrivals.specs.HttpReplies.{HttpReply}
use Rattle.arrivals.specs.Meaning.{Arrived, contents_after, http_reply_on}
use Rattle.wire.specs.Sending.{ask_of}
use Rattle.feeder.specs.declared.feeder.InsertFault.{InsertFault}
use Rattle.feeder.specs.declared.world.Event.{Event}
use Rattle.feeder.specs.declared.world.Event.TheVariants as event
use Rattle.feeder.specs.declared.world.Stop.{Stop}
use Rattle.feeder.specs.declared.world.Stop.TheVariants.{No, Before, After}
use Rattle.feeder.specs.Table.{Act, Apply, Done, Eject, FeederState, Send, Wait, after_card, after_insert, after_reply, asked, number_at, started}

-- ---- the state of the world

-- a machine that was started: its feeder, and the serial number of the inserted card
pub record Machine : Type 0 where
  pub feeder : FeederState
  pub card : Option ℕ

-- a card: the commands that it received, and whether it was ejected as good
pub record Card : Type 0 where
  pub received : List (List ℕ)
  pub is_good : Bool

-- a request that a machine sent, with its boot number and its place in that boot
pub record Packet : Type 0 where
  pub machine : List ℕ
  pub boot : ℕ
  pub place : ℕ
  pub call : Call

abbrev pub arrival_of : Packet → Arrived
arrival_of p = record { client = p.machine; number = number_at p.boot p.place; ask = ask_of p.call; request = p.call }

-- an arrival with its reply
pub record Answered : Type 0 where
  pub arrival : Arrived
  pub http_reply : HttpReply

pub record World : Type 0 where
  pub contents : Contents
  -- all packets that were sent, all replies that were given, and all arrivals that were decided,
  -- even if their replies weren't given; the oldest first
  pub packets : List Packet
  pub replies : List Answered
  pub decided : List Answered
  -- by name: the machine, if it was started, and the boot numbers that it used
  pub machines : List ℕ → Option Machine
  pub boots : List ℕ → List ℕ
  -- by serial number
  pub cards : ℕ → Card

abbrev pub new_card : Card
new_card = record { received = []; is_good = false }

-- nothing was sent or decided yet, and no machine was started
abbrev pub at_first : World
at_first = record {
  contents = no_contents;
  packets = [];
  replies = [];
  decided = [];
  machines = λ n. None;
  boots = λ n. [];
  cards = λ serial. new_card;
}

-- ---- the effect of an action

-- the values with another value for one name, or for one serial number
abbrev pub at_name : {T : Type 0} → List ℕ → T → (List ℕ → T) → List ℕ → T
at_name name value values n = if bytes_eq n name then value else values n

abbrev pub at_serial : {T : Type 0} → ℕ → T → (ℕ → T) → ℕ → T
at_serial serial value values s = if s == serial then value else values s

-- the card after it received a command, and after it was ejected
abbrev pub with_command : Card → List ℕ → Card
with_command c command = record c { received = c.received ++ command ∷ [] }

abbrev pub put_out : Card → Bool → Card
put_out c good = record c { is_good = c.is_good || good }

-- the cards after a change of the inserted card, if there is one
abbrev pub with_card : (ℕ → Card) → Option ℕ → (Card → Card) → ℕ → Card
with_card cards None change = cards
with_card cards (Some serial) change = at_serial serial (change (cards serial)) cards

abbrev pub cards_after : (ℕ → Card) → Option ℕ → Act → ℕ → Card
cards_after cards card (Apply command) = with_card cards card (λ c. with_command c command)
cards_after cards card (Eject good) = with_card cards card (λ c. put_out c good)
cards_after cards card Send = cards
cards_after cards card Wait = cards

-- the card that is inserted after an action
abbrev pub card_left : Option ℕ → Act → Option ℕ
card_left card (Eject good) = None
card_left card (Apply command) = card
card_left card Send = card
card_left card Wait = card

abbrev pub with_machine : World → List ℕ → Machine → World
with_machine w name x = record w { machines = at_name name (Some x) w.machines }

abbrev pub acts : World → List ℕ → Option ℕ → Done → World
acts w name card d =
    let machine : Machine = record { feeder = d.0; card = card_left card d.1 } in
    record (with_machine w name machine) { cards = cards_after w.cards card d.1 }

-- ---- the effect of each event

abbrev pub put_in : World → List ℕ → ℕ → FeederState × Result (Unit {0}) InsertFault → World
put_in w name serial (f, Ok done) = with_machine w name (record { feeder = f; card = Some serial })
put_in w name serial (f, Err why) = w

abbrev pub inserted : World → List ℕ → List ℕ → ℕ → Option Machine → World
inserted w name batch serial None = w
inserted w name batch serial (Some x) = put_in w name serial (after_insert x.feeder batch serial)

abbrev pub packet_of : FeederState → Call → Packet
packet_of f call = record { machine = f.machine; boot = f.boot; place = f.place; call = call }

abbrev pub sent_by : World → FeederState → Option (ℕ × Call) → World
sent_by w f None = w
sent_by w f (Some ask) = record w { packets = w.packets ++ packet_of f ask.1 ∷ [] }

abbrev pub sent : World → Option Machine → World
sent w None = w
sent w (Some x) = sent_by w x.feeder (asked x.feeder)

-- arrival `a` with the reply that it gets now
abbrev pub answered : World → Arrived → Answered
answered w a = record { arrival = a; http_reply = http_reply_on w.contents a }

-- arrival `a` is decided unless the server crashes before its commit, and its reply is given unless
-- the server crashes at all
abbrev pub decides : World → Arrived → World
decides w a = record w { contents = contents_after w.contents (a ∷ []); decided = w.decided ++ answered w a ∷ [] }

abbrev pub arrives : World → Arrived → Stop → World
arrives w a Before = w
arrives w a After = decides w a
arrives w a No = record (decides w a) { replies = w.replies ++ answered w a ∷ [] }

abbrev pub arrived : World → Stop → Option Packet → World
arrived w stop None = w
arrived w stop (Some p) = arrives w (arrival_of p) stop

abbrev pub heard : World → Answered → Machine → Option Reply → World
heard w g x None = w
heard w g x (Some reply) = acts w g.arrival.client x.card (after_reply x.feeder g.arrival.number reply)

abbrev pub reached : World → Answered → Option Reply → Option Machine → World
reached w g reply None = w
reached w g reply (Some x) = heard w g x reply

-- the reply is read from its text
abbrev pub delivered : (HttpReply → Option Reply) → World → Option Answered → World
delivered reads w None = w
delivered reads w (Some g) = reached w g (reads g.http_reply) (w.machines g.arrival.client)

abbrev pub worded_in : World → List ℕ → ℕ → Machine → Option ℕ → World
worded_in w name sw x None = w
worded_in w name sw x (Some serial) = acts w name (Some serial) (after_card x.feeder sw)

abbrev pub worded : World → List ℕ → ℕ → Option Machine → World
worded w name sw None = w
worded w name sw (Some x) = worded_in w name sw x x.card

abbrev pub powered : World → List ℕ → ℕ → World
powered w name boot =
    record (with_machine w name (record { feeder = started name boot; card = None })) { boots = at_name name (boot ∷ w.boots name) w.boots }

abbrev pub is_used : World → List ℕ → ℕ → Bool
is_used w name boot = list_any (λ b. b == boot) (w.boots name)

-- the request is an opening or an answer, which only machines send
abbrev pub is_of_machines : Call → Bool
is_of_machines (Job (request.Open batch blank)) = true
is_of_machines (Job (request.Answer session index sw)) = true
is_of_machines (Job _) = false
is_of_machines (Release upto) = false

abbrev pub is_name_of : List (List ℕ) → List ℕ → Bool
is_name_of names n = list_any (bytes_eq n) names

abbrev pub arrived_as : Arrival → Arrived
arrived_as a = record { client = a.client; number = a.number; ask = a.ask; request = a.request }

-- `names` are the names of all machines in the list of events
abbrev pub happens : (HttpReply → Option Reply) → List (List ℕ) → World → Event → World
happens reads names w (event.Insert machine batch blank) = inserted w machine batch blank (w.machines machine)
happens reads names w (event.Send machine) = sent w (w.machines machine)
happens reads names w (event.Arrive packet stop) = arrived w stop (slice_get w.packets packet)
happens reads names w (event.Deliver reply) = delivered reads w (slice_get w.replies reply)
happens reads names w (event.Card machine sw) = worded w machine sw (w.machines machine)
happens reads names w (event.Power machine boot) = if is_used w machine boot then w else powered w machine boot
happens reads names w (event.Office arrival stop) =
    if is_name_of names arrival.client || is_of_machines arrival.request then w else arrives w (arrived_as arrival) stop

-- ---- lists of events

abbrev pub run : (HttpReply → Option Reply) → List (List ℕ) → List Event → World → World
run reads names [] w = w
run reads names (e ∷ es) w = run reads names es (happens reads names w e)

-- the names of the machines that are started in a list of events
abbrev pub machines_of : List Event → List (List ℕ)
machines_of [] = []
machines_of (event.Power machine boot ∷ es) = machine ∷ machines_of es
machines_of (_ ∷ es) = machines_of es

abbrev pub world_after : (HttpReply → Option Reply) → List Event → World
world_after reads events = run reads (machines_of events) events at_first
