-- The shop floor of a drill: machines, packets and replies, the effect of each line on them, and
-- its output (this project's profile).
use Rattle.std.specs.Prelude.{◌≡◌, ℕ, ◌+◌, ◌-◌, ◌==◌, ◌&&◌, Bool, if◌then◌else◌, List, [], ◌∷◌, ◌++◌, length, bytes_eq, codes, position, slice_get, slice_set, Option, Some, None, option_map, option_and_then, Result, Ok, Err, Vec}
use Rattle.std.specs.Global.{Global}
use Rattle.std.specs.List.{list_any}
use Rattle.std.specs.Fmt.{decimal}
use Rattle.hex.specs.Hex.{encode_upper}
use Rattle.text_io.specs.Written.{line}
use Rattle.job_facts.specs.declared.reply.Reply.{Reply}
use Rattle.job_facts.specs.declared.request.Call.{Call}
use Rattle.wire.specs.Sending.{sending_of}
use Rattle.feeder.specs.declared.feeder.InsertFault.{InsertFault}
use Rattle.feeder.specs.Reading.{IsRead}
use Rattle.feeder.specs.Table.{Act, Apply, Done, Eject, FeederState, Send, Wait, after_card, after_insert, after_reply, asked, started}
use Rattle.drill.specs.declared.sent.Boot.{Boot}
use Rattle.drill.specs.declared.sent.Packet.{Packet}
use Rattle.drill.specs.declared.sent.Returned.{Returned}
use Rattle.drill.specs.declared.turn.Turn.{Turn}
use Rattle.drill.specs.declared.turn.Turn.TheVariants as turn

-- the feeders of the started machines, the boot numbers that they used, and all packets and
-- replies, the oldest first
pub record Floor : Type 0 where
  pub machines : List FeederState
  pub boots : List Boot
  pub packets : List Packet
  pub replies : List Returned

abbrev pub empty_floor : Floor
empty_floor = record { machines = []; boots = []; packets = []; replies = [] }

-- the shop floor after a line, and the output of the line
abbrev pub Turned : Type 0
Turned = Floor × List ℕ

-- ---- texts

abbrev pub act_text : Act → List ℕ
act_text Send = line (codes "send")
act_text (Apply command) = line (codes "apply " ++ encode_upper command)
act_text (Eject good) = line (if good then codes "eject good" else codes "eject bad")
act_text Wait = line (codes "wait")

abbrev pub packet_text : ℕ → List ℕ
packet_text k = line (codes "packet " ++ decimal k)

abbrev pub insert_text : Result (Unit {0}) InsertFault → List ℕ
insert_text (Ok done) = line (codes "ok")
insert_text (Err why) = line (codes "refused")

-- ---- machines

abbrev pub is_machine : List ℕ → FeederState → Bool
is_machine name f = bytes_eq f.machine name

abbrev pub place_of : List ℕ → Floor → Option ℕ
place_of name fl = position (is_machine name) fl.machines

-- the feeder of the machine `name` and its position
abbrev pub machine_in : List ℕ → Floor → Option (ℕ × FeederState)
machine_in name fl = option_and_then (λ i. option_map (λ f. (i, f)) (slice_get fl.machines i)) (place_of name fl)

abbrev pub with_machine : Floor → ℕ → FeederState → Floor
with_machine fl i f = record fl { machines = slice_set fl.machines i f }

-- ---- power

abbrev pub is_boot : List ℕ → ℕ → Boot → Bool
is_boot name boot b = bytes_eq b.machine name && (b.boot == boot)

abbrev pub comes : Floor → FeederState → Option ℕ → Floor
comes fl f None = record fl { machines = fl.machines ++ f ∷ [] }
comes fl f (Some i) = with_machine fl i f

-- a machine loses its state and starts, unless it had the boot number before
abbrev pub powered : List ℕ → ℕ → Floor → Floor
powered name boot fl =
    if list_any (is_boot name boot) fl.boots then fl
    else record (comes fl (started name boot) (place_of name fl)) { boots = fl.boots ++ record { machine = name; boot = boot } ∷ [] }

-- ---- cards

abbrev pub inserted_at : Floor → ℕ → FeederState × Result (Unit {0}) InsertFault → Turned
inserted_at fl i did = (with_machine fl i did.0, insert_text did.1)

abbrev pub inserted : List ℕ → List ℕ → ℕ → Floor → Option Turned
inserted name batch blank fl = option_map (λ (p : ℕ × FeederState). inserted_at fl p.0 (after_insert p.1 batch blank)) (machine_in name fl)

abbrev pub acts : Floor → ℕ → Done → Turned
acts fl i done = (with_machine fl i done.0, act_text done.1)

abbrev pub carded : List ℕ → ℕ → Floor → Option Turned
carded name sw fl = option_map (λ (p : ℕ × FeederState). acts fl p.0 (after_card p.1 sw)) (machine_in name fl)

-- ---- packets

abbrev pub packet_of : FeederState → ℕ × Call → Packet
packet_of f ask = record { machine = f.machine; number = ask.0; message = sending_of f.machine ask.0 ask.1 }

abbrev pub sent_by : Floor → Option Packet → Turned
sent_by fl None = (fl, line (codes "nothing"))
sent_by fl (Some packet) = (record fl { packets = fl.packets ++ packet ∷ [] }, packet_text (length fl.packets + 1))

-- the pending request of a machine is sent, each time that the line is run
abbrev pub sent : List ℕ → Floor → Option Turned
sent name fl = option_map (λ (p : ℕ × FeederState). sent_by fl (option_map (packet_of p.1) (asked p.1))) (machine_in name fl)

-- packets and replies are numbered from 1
abbrev pub packet_at : Floor → ℕ → Option Packet
packet_at fl k = slice_get fl.packets (k - 1)

-- ---- replies

abbrev pub reply_at : Floor → ℕ → Option Returned
reply_at fl j = slice_get fl.replies (j - 1)

abbrev pub with_reply : List ℕ → ℕ → List ℕ → Floor → Floor
with_reply machine number bytes fl = record fl { replies = fl.replies ++ record { machine = machine; number = number; bytes = bytes } ∷ [] }

-- bytes that aren't a reply change nothing
abbrev pub heard : Floor → ℕ → Option Reply → ℕ × FeederState → Turned
heard fl number None p = (fl, act_text Wait)
heard fl number (Some reply) p = acts fl p.0 (after_reply p.1 number reply)

-- a reply to request `number` reaches the machine, regardless of its present boot
abbrev pub backed : List ℕ → ℕ → Option Reply → Floor → Option Turned
backed machine number reply fl = option_map (heard fl number reply) (machine_in machine fl)

abbrev pub BackBy : Floor → Option Returned → Option Turned → Type 0
BackBy fl None made = made ≡ None
BackBy fl (Some r) made = (reply : Option Reply) × IsRead r.bytes reply × (made ≡ backed r.machine r.number reply fl)

abbrev pub GoesBack : Floor → ℕ → Option Turned → Type 0
GoesBack fl j made = BackBy fl (reply_at fl j) made

-- ---- lines

-- the result of a turn, or `None` if it names a machine or a reply that doesn't exist
abbrev pub Turns : Floor → Turn → Option Turned → Type 0
Turns fl (turn.Power machine boot) made = made ≡ Some (powered machine boot fl, line (codes "ok"))
Turns fl (turn.Insert machine batch blank) made = made ≡ inserted machine batch blank fl
Turns fl (turn.Send machine) made = made ≡ sent machine fl
Turns fl (turn.Card machine sw) made = made ≡ carded machine sw fl
Turns fl (turn.Back j) made = GoesBack fl j made

-- ---- the values of the code

abbrev pub turned : Floor → Option (Vec ℕ Global) → Option Turned
turned fl text = option_map (λ v. (fl, v.items)) text
