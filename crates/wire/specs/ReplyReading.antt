-- Defines the results of the steps that parse a response. No crate above uses these definitions.
use Rattle.std.specs.Prelude.{◌≢◌, ◌^◌, ℕ, List, codes, bytes_eq, nat_lt, slice_index, if◌then◌else◌, Option, Some, None, option_map, option_and_then, Result, Ok, Err}
use Rattle.hex.specs.Hex.{decode_of}
use Rattle.hex.specs.declared.error.FromHexError.{FromHexError}
use Rattle.serde_json.specs.Data.{Data}
use Rattle.batch_import.specs.declared.fault.Kind.{Kind as FaultKind}
use Rattle.batch_import.specs.Kinds.{kind_of_code}
use Rattle.job_facts.specs.declared.refusal.Refusal.{Refusal}
use Rattle.job_facts.specs.Refusals.{refusal_of}
use Rattle.job_facts.specs.declared.reply.Made.{Made}
use Rattle.job_facts.specs.declared.reply.Made.TheVariants.{Created, Known}
use Rattle.job_facts.specs.declared.reply.Reply.{Reply}
use Rattle.job_facts.specs.declared.reply.Reply.TheVariants.{Product, Lot, Import, Opened, Next, Good, Spoiled, Reset, Discarded, Waiting, Withdrawn, Closed, Refused, Busy, Released, NumberReleased, Faulty}
use Rattle.std.specs.Option.{option_or}
use Rattle.http_requests.specs.Members.{passing, name_at, number_at, text_at}

-- ---- the start of a body

abbrev pub HasNoBrace : List ℕ → Type 0
HasNoBrace xs = (k : ℕ) → slice_index xs k ≢ 123

-- ---- members of a body

abbrev pub count_at : List ℕ → Data → Option ℕ
count_at key d = option_and_then (passing (λ (n : ℕ). nat_lt n (2 ^ 32))) (number_at key d)

abbrev pub decoded : Result (List ℕ) FromHexError → Option (List ℕ)
decoded (Ok bytes) = Some bytes
decoded (Err why) = None

-- the bytes whose hexadecimal text is in the member `key`
abbrev pub bytes_at : List ℕ → Data → Option (List ℕ)
bytes_at key d = option_and_then (λ (text : List ℕ). decoded (decode_of text)) (text_at key d)

-- ---- the only reply that may have a body, from its members; its text decides

abbrev pub import_in : Made → Data → Option Reply
import_in made d =
    option_and_then (λ (b : List ℕ). option_and_then (λ (records : ℕ). option_map (λ (rows : ℕ). Import b records made rows)
    (count_at (codes "rows") d)) (count_at (codes "records") d)) (name_at (codes "batch") d)

abbrev pub made_in : Made → Data → Option Reply
made_in made d =
    option_or (option_map (λ (p : List ℕ). Product p made) (name_at (codes "product") d))
    (option_or (option_map (λ (l : List ℕ). Lot l made) (name_at (codes "lot") d)) (import_in made d))

abbrev pub opened_in : List ℕ → List ℕ → Data → Option Reply
opened_in b command d =
    option_and_then (λ (blank : ℕ). option_and_then (λ (r : List ℕ). option_map (λ (s : ℕ). Opened b blank command r s)
    (number_at (codes "session") d)) (name_at (codes "record") d)) (number_at (codes "blank") d)

abbrev pub next_in : List ℕ → Data → Option Reply
next_in command d = option_and_then (λ (k : ℕ). option_map (λ (s : ℕ). Next command k s) (number_at (codes "session") d)) (number_at (codes "index") d)

-- an opened session if the body has a batch, otherwise the next command
abbrev pub command_by : Option (List ℕ) → List ℕ → Data → Option Reply
command_by (Some b) command d = opened_in b command d
command_by None command d = next_in command d

abbrev pub command_in : Data → Option Reply
command_in d = option_and_then (λ (command : List ℕ). command_by (name_at (codes "batch") d) command d) (bytes_at (codes "command") d)

abbrev pub noted_by : List ℕ → List ℕ → Data → Option Reply
noted_by b word d =
    if bytes_eq word (codes "waiting") then option_map (λ (r : List ℕ). Waiting b r) (name_at (codes "record") d)
    else if bytes_eq word (codes "withdrawn") then option_map (λ (r : List ℕ). Withdrawn b r) (name_at (codes "record") d)
    else if bytes_eq word (codes "closed") then Some (Closed b)
    else None

abbrev pub noted_in : Data → List ℕ → Option Reply
noted_in d word = option_and_then (λ (b : List ℕ). noted_by b word d) (name_at (codes "batch") d)

abbrev pub ended_in : Data → List ℕ → Option Reply
ended_in d word =
    if bytes_eq word (codes "good") then option_map (λ (s : ℕ). Good s) (number_at (codes "session") d)
    else if bytes_eq word (codes "spoiled") then option_map (λ (s : ℕ). Spoiled s) (number_at (codes "session") d)
    else if bytes_eq word (codes "reset") then option_map (λ (s : ℕ). Reset s) (number_at (codes "session") d)
    else if bytes_eq word (codes "discarded") then option_map (λ (blank : ℕ). Discarded blank) (number_at (codes "blank") d)
    else if bytes_eq word (codes "released") then option_map (λ (mark : ℕ). Released mark) (number_at (codes "mark") d)
    else noted_in d word

abbrev pub accepted_in : Data → List ℕ → Option Reply
accepted_in d word =
    if bytes_eq word (codes "created") then made_in Created d
    else if bytes_eq word (codes "known") then made_in Known d
    else if bytes_eq word (codes "command") then command_in d
    else ended_in d word

abbrev pub faulty_in : Option FaultKind → ℕ → Option Reply
faulty_in k row = option_map (λ (kind : FaultKind). Faulty (record { row = row; kind = kind })) k

-- a refusal, with the session, the release mark or the row that the body has in addition
abbrev pub refused_by : ℕ → Option ℕ → Option ℕ → Option ℕ → Option Reply
refused_by code (Some s) mark row = Some (Busy s)
refused_by code None (Some mark) row = Some (NumberReleased mark)
refused_by code None None (Some row) = faulty_in (kind_of_code code) row
refused_by code None None None = option_map (λ (why : Refusal). Refused why) (refusal_of code)

abbrev pub refused_in : Data → Option Reply
refused_in d = option_and_then (λ (code : ℕ). refused_by code (number_at (codes "session") d) (number_at (codes "mark") d) (count_at (codes "row") d)) (number_at (codes "code") d)

abbrev pub reply_by : Option (List ℕ) → Data → Option Reply
reply_by (Some word) d = accepted_in d word
reply_by None d = refused_in d

abbrev pub reply_in : Data → Option Reply
reply_in d = reply_by (text_at (codes "result") d) d
