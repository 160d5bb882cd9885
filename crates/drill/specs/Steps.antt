-- The effect and the output of each line of a drill (this project's profile).
use Rattle.std.specs.Prelude.{◌≡◌, ℕ, ◌+◌, nat_eq, Bool, true, false, if◌then◌else◌, List, [], ◌∷◌, ◌++◌, drop, length, codes, Option, Some, None, option_map}
use Rattle.std.specs.Fmt.{decimal}
use Rattle.std.specs.List.{ends_with}
use Rattle.text_io.specs.Written.{line}
use Rattle.job_facts.specs.Store.{State}
use Rattle.wire.specs.ReplyParts.{body_behind, status_in}
use Rattle.server.specs.declared.served.End.TheVariants.{Answered}
use Rattle.server.specs.Exchanges.{Exchange, Serves}
use Rattle.feeder.specs.declared.world.Stop.{Stop}
use Rattle.feeder.specs.declared.world.Stop.TheVariants as stop
use Rattle.drill.specs.declared.sent.Packet.{Packet}
use Rattle.drill.specs.declared.turn.Turn.{Turn}
use Rattle.drill.specs.Floors.{Floor, Turned, Turns, packet_at, with_reply}
use Rattle.drill.specs.declared.delivery.Delivery.{Delivery}
use Rattle.drill.specs.declared.step.LineEffect.{LineEffect as DidValue}
use Rattle.drill.specs.Scripts.{asked}
use Rattle.drill.specs.ScriptLines.{Ask, Deliver, Line, Move, line_of}

-- the effect of a line: the shop floor after it, how many of the following lines were its file, its
-- output, and whether the server crashes in it
pub record LineEffect : Type 0 where
  pub floor : Floor
  pub taken : ℕ
  pub text : List ℕ
  pub stops : Bool

-- ---- texts

-- `body` with LF at its end, which is added if it is missing
abbrev pub ended : List ℕ → List ℕ
ended body = if ends_with nat_eq body (codes "\n") then body else line body

-- the status of a response, a space and its body
abbrev pub reply_line : List ℕ → List ℕ
reply_line reply = status_in reply ++ 32 ∷ ended (body_behind reply)

abbrev pub reply_number : ℕ → List ℕ
reply_number j = codes "reply " ++ (decimal j ++ 32 ∷ [])

-- ---- the server

-- `message` is served, and `reply` is its complete response
abbrev pub Answers : {S : Type 0} → (S → State) → S → S → List ℕ → List ℕ → Type 0
Answers state old new message reply =
    (e : Exchange) × (e.input ≡ message) × Serves (state old) (state new) e × (e.served.end ≡ Answered) × (e.written ≡ reply)

-- ---- lines that send a request to the server

-- the request is sent, and the lines of its file are taken
abbrev pub AsksBy : {S : Type 0} → (S → State) → S → S → Floor → List (List ℕ) → Option (List ℕ × List (List ℕ)) → Option LineEffect → Type 0
AsksBy state old new fl behind None did = did ≡ None
AsksBy state old new fl behind (Some p) did =
    (reply : List ℕ) × (taken : ℕ) × Answers state old new p.0 reply × (drop taken behind ≡ p.1)
    × (did ≡ Some (record { floor = fl; taken = taken; text = reply_line reply; stops = false }))

-- ---- lines that deliver a packet

-- the response is stored
abbrev pub delivered : Packet → List ℕ → Floor → LineEffect
delivered p reply fl = record {
  floor = with_reply p.machine p.number reply fl;
  taken = 0;
  text = reply_number (length fl.replies + 1) ++ reply_line reply;
  stops = false;
}

-- the server crashes
abbrev pub stopped : Floor → LineEffect
stopped fl = record { floor = fl; taken = 0; text = line (codes "stopped"); stops = true }

-- a packet is delivered, for the first time or again; if the server crashes before the commit, the
-- store is unchanged; if it crashes after the commit, the response is lost
abbrev pub Brings : {S : Type 0} → (S → State) → S → S → Floor → Stop → Option Packet → Option LineEffect → Type 0
Brings state old new fl stop.No (Some p) did = (reply : List ℕ) × Answers state old new p.message reply × (did ≡ Some (delivered p reply fl))
Brings state old new fl stop.Before (Some p) did = (new ≡ old) × (did ≡ Some (stopped fl))
Brings state old new fl stop.After (Some p) did = (reply : List ℕ) × Answers state old new p.message reply × (did ≡ Some (stopped fl))
Brings state old new fl stop.No None did = did ≡ None
Brings state old new fl stop.Before None did = did ≡ None
Brings state old new fl stop.After None did = did ≡ None

abbrev pub Delivers : {S : Type 0} → (S → State) → S → S → Floor → Delivery → Option LineEffect → Type 0
Delivers state old new fl d did = Brings state old new fl d.stop (packet_at fl d.packet) did

-- ---- lines in which the server has no part

abbrev pub plain : Turned → LineEffect
plain t = record { floor = t.0; taken = 0; text = t.1; stops = false }

abbrev pub Moves : Floor → Turn → Option LineEffect → Type 0
Moves fl t did = (made : Option Turned) × Turns fl t made × (did ≡ option_map plain made)

-- ---- any line

abbrev pub ByLine : {S : Type 0} → (S → State) → S → S → Floor → List (List ℕ) → Option Line → Option LineEffect → Type 0
ByLine state old new fl behind None did = did ≡ None
ByLine state old new fl behind (Some (Move t)) did = (new ≡ old) × Moves fl t did
ByLine state old new fl behind (Some (Deliver d)) did = Delivers state old new fl d did
ByLine state old new fl behind (Some (Ask s)) did = AsksBy state old new fl behind (asked s behind) did

-- the effect of a line with the lines after it, or `None` if the line is malformed or names
-- something that doesn't exist
abbrev pub Steps : {S : Type 0} → (S → State) → S → S → Floor → List ℕ → List (List ℕ) → Option LineEffect → Type 0
Steps state old new fl text behind did = ByLine state old new fl behind (line_of text) did

-- ---- the values of the code

abbrev pub effect_view : Floor → DidValue → LineEffect
effect_view fl did = record { floor = fl; taken = did.taken; text = did.text.items; stops = did.stops }

abbrev pub effect_of : Floor → Option DidValue → Option LineEffect
effect_of fl did = option_map (effect_view fl) did
