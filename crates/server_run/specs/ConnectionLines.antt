-- Defines the event lines of connections (this project's profile).
use Rattle.std.specs.Prelude.{ℕ, ◌&&◌, ◌||◌, Bool, true, false, not, List, [], ◌∷◌, ◌++◌, bytes_eq, codes, length, if◌then◌else◌, Option, Some, None}
use Rattle.job_facts.specs.declared.store.StoreFault.{StoreFault}
use Rattle.job_facts.specs.declared.store.StoreFault.TheVariants as fault
use Rattle.http_messages.specs.Flaws.{member_of, name_of, word_of}
use Rattle.http_messages.specs.ReplyParts.{body_behind}
use Rattle.http_messages.specs.declared.fixed.FixedReply.{FixedReply}
use Rattle.http_messages.specs.declared.fixed.FixedReply.TheVariants.{Malformed}
use Rattle.http_messages.specs.declared.flaw.Flaw.{Flaw}
use Rattle.http_messages.specs.declared.flaw.Member.{Member}
use Rattle.http_requests.specs.declared.meaning.Meaning.{Meaning}
use Rattle.http_requests.specs.declared.meaning.Meaning.TheVariants as meaning
use Rattle.server.specs.declared.served.End.{End}
use Rattle.server.specs.declared.served.End.TheVariants.{Answered, Broken, WriteFailed}
use Rattle.event_lines.specs.Lines.{number_pair, pair, quoted_pair}
use Rattle.event_lines.specs.declared.level.Level.{Level}
use Rattle.event_lines.specs.declared.level.Level.TheVariants.{Off, Usual, All}
use Rattle.server_run.specs.Words.{RefusalWords, refusal_in, status_digits}
use Rattle.server_run.specs.ImportLines.{import_lines}
use Rattle.http_messages.specs.RequestLines.{request_line}
use Rattle.server_run.specs.Observations.{fault_between}
use Rattle.server_run.specs.declared.observation.Observation.{Observation}

-- ---- the outcome of a connection

abbrev pub has_status : List ℕ → Observation → Bool
has_status digits o = bytes_eq (status_digits o.reply) digits

abbrev pub is_answered : End → Bool
is_answered Answered = true
is_answered Broken = false
is_answered WriteFailed = false

-- the response has status 200 and was written completely
abbrev pub is_accepted : Observation → Bool
is_accepted o = is_answered o.served.end && has_status (codes "200") o

-- the response has status 503, because the store or an allocation failed
abbrev pub is_unavailable : Observation → Bool
is_unavailable o = has_status (codes "503") o

-- the store worked
abbrev pub was_served : Observation → Bool
was_served o = o.served.decided || has_status (codes "200") o || has_status (codes "409") o

-- ---- the line of a connection

abbrev pub fault_word : StoreFault → List ℕ
fault_word fault.Full = codes "full"
fault_word fault.Device = codes "device"
fault_word fault.Memory = codes "memory"

-- the status, if there is one
abbrev pub status_pair : List ℕ → List ℕ
status_pair digits = if bytes_eq digits [] then [] else pair (codes "status") digits

abbrev pub words_pairs : Option RefusalWords → List ℕ
words_pairs None = []
words_pairs (Some (code, name)) = pair (codes "code") code ++ pair (codes "name") name

-- the code and name of a refusal; nothing is shown of a body with status 200
abbrev pub refusal_pairs : Observation → List ℕ
refusal_pairs o = if has_status (codes "200") o then [] else words_pairs (refusal_in (body_behind o.reply))

abbrev pub fault_pair : Observation → List ℕ
fault_pair o = if is_unavailable o then pair (codes "fault") (fault_word (fault_between o.before o.after)) else []

abbrev pub flaw_of : FixedReply → Option Flaw
flaw_of (Malformed flaw) = Some flaw
flaw_of _ = None

-- the flaw of a malformed message
abbrev pub flaw_in : Meaning → Option Flaw
flaw_in (meaning.Refused why) = flaw_of why
flaw_in _ = None

abbrev pub member_pair : Option Member → List ℕ
member_pair None = []
member_pair (Some member) = pair (codes "member") (name_of member)

-- the first test that a malformed message fails
abbrev pub flaw_pairs : Option Flaw → List ℕ
flaw_pairs None = []
flaw_pairs (Some flaw) = pair (codes "cause") (word_of flaw) ++ member_pair (member_of flaw)

-- the line of a connection that ended this way, without its request
abbrev pub outcome_text : End → Observation → List ℕ
outcome_text Answered o = codes "answered" ++ status_pair (status_digits o.reply) ++ refusal_pairs o ++ fault_pair o ++ flaw_pairs (flaw_in o.meaning)
outcome_text Broken o = codes "broken"
outcome_text WriteFailed o = codes "unsent" ++ status_pair (status_digits o.reply)

-- a request line, or otherwise the number of bytes
abbrev pub line_pair : Option (List ℕ) → ℕ → List ℕ
line_pair (Some line) count = quoted_pair (codes "request") line
line_pair None count = number_pair (codes "bytes") count

-- the request line at the start of `bytes`, or otherwise their number
abbrev pub request_pair : List ℕ → List ℕ
request_pair bytes = line_pair (request_line bytes) (length bytes)

abbrev pub connection_line : Observation → List ℕ
connection_line o = outcome_text o.served.end o ++ request_pair o.request

-- ---- the lines of a list of connections

-- the line before the first connection that the store served again after a 503
abbrev pub recovery_lines : Level → Bool → Observation → List (List ℕ)
recovery_lines Off is_failing o = []
recovery_lines Usual is_failing o = if is_failing && was_served o then codes "recovered" ∷ [] else []
recovery_lines All is_failing o = if is_failing && was_served o then codes "recovered" ∷ [] else []

-- the connection's own line, if the level includes it
abbrev pub own_lines : Level → Observation → List (List ℕ)
own_lines Off o = []
own_lines Usual o = if is_accepted o then [] else connection_line o ∷ []
own_lines All o = connection_line o ∷ []

abbrev pub lines_at : Level → Bool → Observation → List (List ℕ)
lines_at level is_failing o = recovery_lines level is_failing o ++ own_lines level o ++ import_lines o

-- the store is failing: it returned 503 and has served no connection since then
abbrev pub fails_after : Bool → Observation → Bool
fails_after is_failing o = is_unavailable o || (is_failing && not (was_served o))

abbrev pub connection_lines : Level → Bool → List Observation → List (List ℕ)
connection_lines level is_failing [] = []
connection_lines level is_failing (o ∷ os) = lines_at level is_failing o ++ connection_lines level (fails_after is_failing o) os
