-- Defines the messages that clients send, and their meaning (this project's profile).
use Rattle.std.specs.Prelude.{ℕ, List, ◌++◌, length, codes, decimal, Option, Some}
use Rattle.job_facts.specs.declared.request.Call.{Call}
use Rattle.http_messages.specs.RequestHeads.{request_head}
use Rattle.http_requests.specs.Asks.{arrival_of, ask_with, or_malformed}
use Rattle.http_requests.specs.Flaws.{body_flaw}
use Rattle.http_requests.specs.Meant.{Meant, meant_by}

-- the path with this client and request number, followed by `tail`
abbrev pub target_with : List ℕ → ℕ → List ℕ → List ℕ
target_with client number tail = codes "/c/" ++ client ++ codes "/" ++ decimal number ++ tail

-- the message with this body and with the path of this client, request number and `tail`
abbrev pub post_with : List ℕ → ℕ → List ℕ → List ℕ → List ℕ
post_with client number tail body = request_head (target_with client number tail) (length body) ++ body

-- the arrival of `call`, or the refusal as malformed if the body isn't a call
abbrev pub posted_with : List ℕ → ℕ → List ℕ → List ℕ → Option Call → Meant
posted_with client number tail body call = meant_by (or_malformed (body_flaw body) (arrival_of (Some client) (Some number) (ask_with tail body) call))
