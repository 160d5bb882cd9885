-- Defines the request of a message (this project's profile).
use Rattle.std.specs.Prelude.{◌≡◌, ℕ, if◌then◌else◌, List, [], ◌∷◌, ◌++◌, bytes_eq, codes, Option, Some, None, Result, Ok, Err, ⊤, option_map}
use Rattle.text_io.specs.Numbers.{number_in}
use Rattle.store_data.specs.Name.{is_name}
use Rattle.job_facts.specs.declared.request.Call.{Call}
use Rattle.job_facts.specs.declared.request.Call.TheVariants as call
use Rattle.job_facts.specs.declared.request.Request.TheVariants as request
use Rattle.job_facts.specs.Requests.{IsArrival}
use Rattle.http_requests.specs.declared.ask.Asked.{Asked}
use Rattle.http_requests.specs.declared.ask.Asked.TheVariants as asked
use Rattle.http_requests.specs.declared.ask.AskFault.{AskFault}
use Rattle.http_requests.specs.declared.ask.AskFault.TheVariants as fault
use Rattle.http_requests.specs.declared.ask.Wanted.TheVariants as wanted
use Rattle.http_messages.specs.declared.fixed.FixedReply.{FixedReply}
use Rattle.http_messages.specs.declared.fixed.FixedReply.TheVariants.{Malformed, NoRoute, OnlyMethod}
use Rattle.http_messages.specs.declared.flaw.Flaw.{Flaw}
use Rattle.http_messages.specs.declared.flaw.Flaw.TheVariants as flaw
use Rattle.http_messages.specs.declared.reply.Method.{Method}
use Rattle.http_messages.specs.declared.reply.Method.TheVariants.{Get, Post}
use Rattle.http_messages.specs.Messages.{MessageParts}
use Rattle.http_requests.specs.Flaws.{body_flaw, path_flaw}
use Rattle.http_requests.specs.Members.{passing}
use Rattle.http_requests.specs.Requests.{call_in}
use Rattle.http_requests.specs.Routes.{Route, Job, Import, Batch, Report, Blanks, method_of, route_in}

-- ---- request bytes

-- the part of an import's path after the request number
abbrev pub import_tail : List ℕ → List ℕ → List ℕ
import_tail batch product = codes "/batch/" ++ batch ++ codes "/" ++ product

-- the request bytes: the part of the path after the request number, a byte 00, and the body
abbrev pub ask_with : List ℕ → List ℕ → List ℕ
ask_with tail body = tail ++ 0 ∷ body

-- ---- requests by route

abbrev pub method_text : Method → List ℕ
method_text Get = codes "GET"
method_text Post = codes "POST"

abbrev pub name_in : List ℕ → Option (List ℕ)
name_in text = passing is_name text

-- the arrival of a call with its client and request number, if all of them are valid
abbrev pub arrival_of : Option (List ℕ) → Option ℕ → List ℕ → Option Call → Option Asked
arrival_of (Some client) (Some number) ask (Some request) = Some (asked.Arrival (record { client = client; number = number; ask = ask; request = request }))
arrival_of client number ask request = None

-- the import of a batch file, which has no JSON: the names are in the path, and the body is the
-- file
abbrev pub import_of : Option (List ℕ) → Option (List ℕ) → List ℕ → Option Call
import_of (Some batch) (Some product) raw = Some (call.Job (request.Import batch product raw))
import_of batch product raw = None

-- the request with this route and body, if the names, the number and the JSON are valid
abbrev pub ask_in : Route → List ℕ → Option Asked
ask_in (Job client number) body = arrival_of (name_in client) (number_in number) (ask_with [] body) (call_in body)
ask_in (Import client number batch product) body =
    arrival_of (name_in client) (number_in number) (ask_with (import_tail batch product) body) (import_of (name_in batch) (name_in product) body)
ask_in (Batch batch) body = option_map (λ (name : List ℕ). asked.Account (wanted.Batch name)) (name_in batch)
ask_in (Report batch) body = option_map (λ (name : List ℕ). asked.Account (wanted.Report name)) (name_in batch)
ask_in (Blanks product) body = option_map (λ (name : List ℕ). asked.Account (wanted.Blanks name)) (name_in product)

-- the first flaw of a message with this route and body that has no request
abbrev pub flaw_in : Route → List ℕ → Flaw
flaw_in (Job client number) body = path_flaw (name_in client) (number_in number) (body_flaw body)
flaw_in (Import client number batch product) body = path_flaw (name_in client) (number_in number) flaw.PathName
flaw_in (Batch batch) body = flaw.PathName
flaw_in (Report batch) body = flaw.PathName
flaw_in (Blanks product) body = flaw.PathName

abbrev pub or_malformed : Flaw → Option Asked → Result Asked FixedReply
or_malformed why None = Err (Malformed why)
or_malformed why (Some a) = Ok a

abbrev pub asked_at : Option Route → MessageParts → Result Asked FixedReply
asked_at None c = Err NoRoute
asked_at (Some r) c = if bytes_eq c.method (method_text (method_of r)) then or_malformed (flaw_in r c.body) (ask_in r c.body) else Err (OnlyMethod (method_of r))

-- the request of a message, or the fixed response for the first test that fails
abbrev pub asked_of : MessageParts → Result Asked FixedReply
asked_of c = asked_at (route_in c.target) c

-- ---- results of the code

abbrev pub IsAsked : Result Asked FixedReply → Result Asked AskFault → Type 0
IsAsked wanted (Ok a) = wanted ≡ Ok a
IsAsked wanted (Err (fault.Refused why)) = wanted ≡ Err why
IsAsked wanted (Err fault.Memory) = ⊤

-- the text of an error
abbrev pub fault_text : AskFault → List ℕ
fault_text (fault.Refused why) = codes "the message is refused"
fault_text fault.Memory = codes "out of memory"

-- the number and the call of an arrival are in range
abbrev pub IsInRange : Asked → Type 0
IsInRange (asked.Arrival a) = IsArrival a
IsInRange (asked.Account w) = ⊤
