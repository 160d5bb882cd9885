-- Defines the messages of requests: HTTP/1.1 (RFC 9112) with the header lines of this project's
-- profile, and compact JSON (RFC 8259) with the members sorted by name.
use Rattle.std.specs.Prelude.{◌≡◌, ◌≤◌, ◌<◌, ◌^◌, ◌/◌, ◌%◌, ℕ, List, [], ◌∷◌, length, codes, ⊤}
use Rattle.hex.specs.Hex.{encode_upper}
use Rattle.serde_json.specs.Data.{Data, boolean, null, string, object, member, no_members}
use Rattle.serde_json.specs.Written.{compact_text}
use Rattle.arrivals.specs.Values.{num}
use Rattle.job_facts.specs.Sound.{IsName}
use Rattle.job_facts.specs.Requests.{IsRequest}
use Rattle.job_facts.specs.declared.request.Call.{Call}
use Rattle.job_facts.specs.declared.request.Call.TheVariants.{Job, Release}
use Rattle.job_facts.specs.declared.request.Request.TheVariants as request
use Rattle.http_requests.specs.declared.ask.Asked.TheVariants as asked
use Rattle.http_requests.specs.Asks.{ask_with, import_tail}
use Rattle.http_requests.specs.Meant.{Asks, Means}
use Rattle.http_requests.specs.Posts.{post_with}
use Rattle.text_io.specs.Inputs.{most_input}

-- ---- preconditions

-- serials, session numbers and request numbers have at most 18 digits, and a batch file isn't
-- larger than a body may be
abbrev pub IsSendable : Call → Type 0
IsSendable (Job (request.Product p)) = IsRequest (request.Product p)
IsSendable (Job (request.Lot l)) = IsRequest (request.Lot l)
IsSendable (Job (request.Import b p raw)) = length raw ≤ most_input
IsSendable (Job (request.Open b blank)) = blank < 10 ^ 18
IsSendable (Job (request.Answer s k sw)) = (1 ≤ s) × (s < 10 ^ 18) × (k < 2 ^ 32) × (sw < 2 ^ 16)
IsSendable (Job (request.Abort s)) = (1 ≤ s) × (s < 10 ^ 18)
IsSendable (Job request.Reset) = ⊤
IsSendable (Job (request.Discard blank)) = blank < 10 ^ 18
IsSendable (Job (request.Remake b r)) = ⊤
IsSendable (Job (request.Withdraw b r)) = ⊤
IsSendable (Job (request.Close b)) = ⊤
IsSendable (Release upto) = (1 ≤ upto) × (upto < 10 ^ 18)

-- ---- bodies

-- a status word as four hexadecimal digits in upper case
abbrev pub word_text : ℕ → List ℕ
word_text sw = encode_upper (sw / 256 ∷ sw % 256 ∷ [])

-- ---- the JSON of a call

-- a request with this `do`, for a batch and a record
abbrev pub record_request : List ℕ → List ℕ → List ℕ → Data
record_request b word r = object (member (codes "batch") (string b) (member (codes "do") (string word) (member (codes "record") (string r) no_members)))

-- the JSON value of a call; an import has no JSON, so its value is null
abbrev pub value_of : Call → Data
value_of (Job (request.Product p)) =
    object (member (codes "check") (boolean p.check) (member (codes "do") (string (codes "product")) (member (codes "low") (num p.low)
    (member (codes "max") (num p.max) (member (codes "product") (string p.code) no_members)))))
value_of (Job (request.Lot l)) =
    object (member (codes "count") (num l.count) (member (codes "do") (string (codes "lot")) (member (codes "first") (num l.first)
    (member (codes "lot") (string l.name) (member (codes "product") (string l.product) no_members)))))
value_of (Job (request.Import b p raw)) = null
value_of (Job (request.Open b blank)) = object (member (codes "batch") (string b) (member (codes "blank") (num blank) (member (codes "do") (string (codes "open")) no_members)))
value_of (Job (request.Answer s k sw)) =
    object (member (codes "do") (string (codes "answer")) (member (codes "index") (num k) (member (codes "session") (num s) (member (codes "sw") (string (word_text sw)) no_members))))
value_of (Job (request.Abort s)) = object (member (codes "do") (string (codes "abort")) (member (codes "session") (num s) no_members))
value_of (Job request.Reset) = object (member (codes "do") (string (codes "reset")) no_members)
value_of (Job (request.Discard blank)) = object (member (codes "blank") (num blank) (member (codes "do") (string (codes "discard")) no_members))
value_of (Job (request.Remake b r)) = record_request b (codes "remake") r
value_of (Job (request.Withdraw b r)) = record_request b (codes "withdraw") r
value_of (Job (request.Close b)) = object (member (codes "batch") (string b) (member (codes "do") (string (codes "close")) no_members))
value_of (Release upto) = object (member (codes "do") (string (codes "release")) (member (codes "upto") (num upto) no_members))

-- the body of a call: compact JSON (RFC 8259), or the batch file of an import
unfoldable pub body_of : Call → List ℕ
body_of (Job (request.Import b p raw)) = raw
body_of call = compact_text (value_of call)

-- ---- messages

abbrev pub tail_of : Call → List ℕ
tail_of (Job (request.Import b p raw)) = import_tail b p
tail_of (Job (request.Product p)) = []
tail_of (Job (request.Lot l)) = []
tail_of (Job (request.Open b blank)) = []
tail_of (Job (request.Answer s k sw)) = []
tail_of (Job (request.Abort s)) = []
tail_of (Job request.Reset) = []
tail_of (Job (request.Discard blank)) = []
tail_of (Job (request.Remake b r)) = []
tail_of (Job (request.Withdraw b r)) = []
tail_of (Job (request.Close b)) = []
tail_of (Release upto) = []

-- the message of a call
abbrev pub sending_of : List ℕ → ℕ → Call → List ℕ
sending_of client number r = post_with client number (tail_of r) (body_of r)

-- the request bytes of a call
abbrev pub ask_of : Call → List ℕ
ask_of r = ask_with (tail_of r) (body_of r)

-- the names in the call are valid
abbrev pub AreNames : Call → Type 0
AreNames (Job (request.Product p)) = IsName p.code
AreNames (Job (request.Lot l)) = IsName l.name × IsName l.product
AreNames (Job (request.Import b p raw)) = ⊤
AreNames (Job (request.Open b blank)) = IsName b
AreNames (Job (request.Answer s k sw)) = ⊤
AreNames (Job (request.Abort s)) = ⊤
AreNames (Job request.Reset) = ⊤
AreNames (Job (request.Discard blank)) = ⊤
AreNames (Job (request.Remake b r)) = IsName b × IsName r
AreNames (Job (request.Withdraw b r)) = IsName b × IsName r
AreNames (Job (request.Close b)) = IsName b
AreNames (Release upto) = ⊤

-- ---- the meaning of a message

-- the only meaning of `text` is the call `r` of the client `client` under the request number
-- `number`
abbrev pub Arrives : List ℕ → List ℕ → ℕ → Call → Type 0
Arrives text client number r = Means text (Asks (asked.Arrival (record { client = client; number = number; ask = ask_of r; request = r })))

-- ---- helper definitions

-- the call is JSON
abbrev pub IsNoImport : Call → Type 0
IsNoImport r = (b p raw : List ℕ) → r ≡ Job (request.Import b p raw) → ⊥

-- `text` is the message of the call `r` and means this call
abbrev pub IsMessageOf : List ℕ → ℕ → Call → List ℕ → Type 0
IsMessageOf client number r text = (text ≡ sending_of client number r) × Arrives text client number r
