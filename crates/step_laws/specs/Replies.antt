-- The meaning of a reply of the reference model: the requests that it can belong to, and what it
-- states about the facts.
use Rattle.std.specs.Prelude.{◌≡◌, ◌+◌, ℕ, zero, suc, false, List, length, Some, None, IsSome, IsTrue, ⊤}
use Rattle.batch_import.specs.Batch.{records_of_rows}
use Rattle.job_facts.specs.declared.facts.RecordState.TheVariants as rec
use Rattle.job_facts.specs.declared.facts.SessionState.{SessionState}
use Rattle.job_facts.specs.declared.facts.SessionState.TheVariants as session
use Rattle.job_facts.specs.declared.reply.Made.{Made}
use Rattle.job_facts.specs.declared.reply.Made.TheVariants.{Created, Known}
use Rattle.job_facts.specs.declared.reply.Reply.{Reply}
use Rattle.job_facts.specs.declared.reply.Reply.TheVariants as reply
use Rattle.job_facts.specs.declared.request.Request.{Request}
use Rattle.job_facts.specs.declared.request.Request.TheVariants as request
use Rattle.job_facts.specs.Facts.{Batch, Facts, Session, new_session}
use Rattle.job_facts.specs.States.{batch_named, command_at, is_charged, is_closed, lot_named, product_named, record_state, record_state_of, rows_of, running_session, session_numbered, session_state}
use Rattle.step_laws.specs.Records.{record_by}

-- ---- the requests of a reply

abbrev pub MayGetReply : Request → Reply → Type 0
MayGetReply r (reply.Refused why) = ⊤
MayGetReply (request.Product p) (reply.Product code made) = code ≡ p.code
MayGetReply (request.Lot l) (reply.Lot name made) = name ≡ l.name
MayGetReply (request.Import b p raw) (reply.Import name records made rows) = name ≡ b
MayGetReply (request.Import b p raw) (reply.Faulty fault) = ⊤
MayGetReply (request.Open b blank) (reply.Opened name serial command r s) = (name ≡ b) × (serial ≡ blank)
MayGetReply (request.Open b blank) (reply.Busy s) = ⊤
MayGetReply (request.Answer s k sw) (reply.Next command index given) = (given ≡ s) × (index ≡ k + 1)
MayGetReply (request.Answer s k sw) (reply.Good given) = given ≡ s
MayGetReply (request.Answer s k sw) (reply.Spoiled given) = given ≡ s
MayGetReply (request.Abort s) (reply.Spoiled given) = given ≡ s
MayGetReply request.Reset (reply.Reset given) = ⊤
MayGetReply (request.Discard blank) (reply.Discarded given) = given ≡ blank
MayGetReply (request.Remake b r) (reply.Waiting c q) = (c ≡ b) × (q ≡ r)
MayGetReply (request.Withdraw b r) (reply.Withdrawn c q) = (c ≡ b) × (q ≡ r)
MayGetReply (request.Close b) (reply.Closed c) = c ≡ b
MayGetReply _ _ = ⊥

-- ---- the statements about the facts

-- If the reply is `Known`, the facts are unchanged.
abbrev pub LeavesKnown : Made → Facts → Facts → Type 0
LeavesKnown Created f g = ⊤
LeavesKnown Known f g = g ≡ f

-- `x` is session `s`, belongs to `client` and has the state `state`, and its record has the
-- corresponding state.
pub record IsSessionOf (g : Facts) (client : List ℕ) (s : ℕ) (x : Session) (state : SessionState) : Type 0 where
  pub there : session_numbered g.sessions s ≡ Some x
  pub own : x.machine ≡ client
  pub stands : session_state g x ≡ state
  pub rec : record_state g x.batch x.rec ≡ record_by state

-- The session with the number in a reply to `reset` is spoiled. If the number is 0, the facts are
-- unchanged.
abbrev pub IsGivenUp : Facts → Facts → List ℕ → ℕ → Type 0
IsGivenUp f g client zero = g ≡ f
IsGivenUp f g client (suc s) = (x : Session) × IsSessionOf g client (suc s) x session.Spoiled

-- the statement that a reply to `client` makes about the facts `f` before and `g` after its
-- request. All replies not listed are refusals, which leave the facts unchanged.
abbrev pub Says : Facts → Facts → List ℕ → Reply → Type 0
Says f g client (reply.Product p made) = IsSome (product_named g.products p) × LeavesKnown made f g
Says f g client (reply.Lot l made) = IsSome (lot_named g.lots l) × LeavesKnown made f g
Says f g client (reply.Import b records made rows) =
    (batch : Batch) × (batch_named g.batches b ≡ Some batch) × (rows ≡ length (rows_of g.products batch))
    × (records ≡ length (records_of_rows (rows_of g.products batch))) × LeavesKnown made f g
Says f g client (reply.Opened b blank command r s) =
    (s ≡ length g.sessions) × IsSessionOf g client s (new_session client b r blank) session.Running
    × (is_charged f blank ≡ false) × (command ≡ command_at g b r 0)
Says f g client (reply.Next command k s) =
    (x : Session) × IsSessionOf g client s x session.Running × (length x.words ≡ k) × (command ≡ command_at g x.batch x.rec k)
Says f g client (reply.Good s) = (x : Session) × IsSessionOf g client s x session.Good
Says f g client (reply.Spoiled s) = (x : Session) × IsSessionOf g client s x session.Spoiled
Says f g client (reply.Reset s) = (running_session g client ≡ None) × IsGivenUp f g client s
Says f g client (reply.Discarded blank) = IsTrue (is_charged g blank)
Says f g client (reply.Waiting b r) = record_state_of g b r ≡ Some rec.Waiting
Says f g client (reply.Withdrawn b r) = record_state_of g b r ≡ Some rec.Withdrawn
Says f g client (reply.Closed b) = IsTrue (is_closed g b)
Says f g client (reply.Busy s) = (running_session f client ≡ Some s) × (g ≡ f)
Says f g client _ = g ≡ f
