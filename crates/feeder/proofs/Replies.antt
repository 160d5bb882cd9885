-- The facts that the replies of the reference model state to machines. They stay true later.
use Rattle.std.proofs.Common.{◌≡◌, ◌<◌, ◌+◌, ℕ, List, length, Some, refl, sym, ap, ◌∙◌, arith}
use Rattle.std.specs.Prelude.{false, slice_get, ⊤}
use Rattle.job_facts.specs.declared.facts.SessionState.TheVariants as session
use Rattle.job_facts.specs.declared.reply.Reply.{Reply}
use Rattle.job_facts.specs.declared.reply.Reply.TheVariants as reply
use Rattle.job_facts.specs.declared.request.Request.{Request}
use Rattle.job_facts.specs.declared.request.Request.TheVariants as request
use Rattle.job_facts.specs.Facts.{Facts, Session, new_session}
use Rattle.job_facts.specs.Sound.{IsSound}
use Rattle.job_facts.specs.States.{command_at, command_bytes, commands_for, is_charged, session_numbered, session_state}
use Rattle.job_facts.proofs.Lists.{item_there}
use Rattle.step_laws.specs.Later.{IsLaterSession, Later}
use Rattle.step_laws.specs.Ranges.{IsRangedReply}
use Rattle.step_laws.specs.Replies.{MayGetReply, Says}
use Rattle.step_laws.proofs.GoodCards.{running_begun}
use Rattle.arrivals.specs.Commands.{IsCommand}
use Rattle.wire.specs.ReplyText.{IsReply}

-- if reply `r` to an opening contains a command, its session belongs to `client` and `blank`, and
-- the command is the first of the session's record
abbrev pub OpenFits : Facts → List ℕ → ℕ → Reply → Type 0
OpenFits f client blank (reply.Opened batch named command rec s) = (x : Session) × (session_numbered f.sessions s ≡ Some x) × (x.machine ≡ client) × (x.blank ≡ blank) × IsCommand f x.batch x.rec 0 command
OpenFits f client blank _ = ⊤

-- if reply `r` to an `answer` request contains a command, it is the next command of the session's
-- record; if `r` is `Good`, session `s` is good
abbrev pub AnswerFits : Facts → List ℕ → ℕ → ℕ → Reply → Type 0
AnswerFits f client s k (reply.Next command index named) =
    (named ≡ s) × (index ≡ k + 1) × (x : Session) × (session_numbered f.sessions s ≡ Some x) × (x.machine ≡ client) × IsCommand f x.batch x.rec index command
AnswerFits f client s k (reply.Good named) = (named ≡ s) × (x : Session) × (session_numbered f.sessions s ≡ Some x) × (session_state f x ≡ session.Good)
AnswerFits f client s k _ = ⊤

-- ---- later facts

command_later : (f g : Facts) (b r c q : List ℕ) (k : ℕ) (command : List ℕ) → c ≡ b → q ≡ r → commands_for g b r ≡ commands_for f b r → IsCommand f b r k command → IsCommand g c q k command
command_later f g b r c q k command batch rec same is =
    let here : commands_for g c q ≡ commands_for f b r = ap (λ n. commands_for g n q) batch ∙ ap (commands_for g b) rec ∙ same in
    (is.0, ap (λ cs. slice_get cs k) here ∙ is.1, is.2)

-- A good session stays good.
pub good_later : (f g : Facts) (s : ℕ) (x : Session) (y : IsLaterSession f g s x) → session_state f x ≡ session.Good → session_state g y.now ≡ session.Good
good_later f g s x y good =
    let over = y.over (λ runs. running_apart (sym runs ∙ good)) in
    ap (session_state g) over.0 ∙ over.1 ∙ good
  where
    running_apart : session.Running ≡ session.Good → ⊥
    running_apart e = cc

pub open_later : (f g : Facts) (client : List ℕ) (blank : ℕ) (r : Reply) → Later f g → OpenFits f client blank r → OpenFits g client blank r
open_later f g client blank (reply.Opened batch named command rec s) later fits =
    let y = later s fits.0 fits.1 in
    (y.now, y.there, y.machine ∙ fits.2, y.blank ∙ fits.3, command_later f g fits.0.batch fits.0.rec y.now.batch y.now.rec 0 command y.batch y.rec y.commands fits.4)
open_later f g client blank _ later fits = tt

pub answer_later : (f g : Facts) (client : List ℕ) (s k : ℕ) (r : Reply) → Later f g → AnswerFits f client s k r → AnswerFits g client s k r
answer_later f g client s k (reply.Next command index named) later fits =
    let y = later s fits.2 fits.3 in
    (fits.0, fits.1, y.now, y.there, y.machine ∙ fits.4, command_later f g fits.2.batch fits.2.rec y.now.batch y.now.rec index command y.batch y.rec y.commands fits.5)
answer_later f g client s k (reply.Good named) later fits =
    let y = later s fits.1 fits.2 in
    (fits.0, y.now, y.there, good_later f g s fits.1 y fits.3)
answer_later f g client s k _ later fits = tt

-- ---- a step of the reference model

-- The next command of a running session with `k` status words is command `k` of its record.
command_is : (g : Facts) (s k : ℕ) (x : Session) (command : List ℕ) → IsSound g → session_numbered g.sessions s ≡ Some x → session_state g x ≡ session.Running → length x.words ≡ k
    → command ≡ command_at g x.batch x.rec k → IsCommand g x.batch x.rec k command
command_is g s k x command sound there runs words is =
    let commands = commands_for g x.batch x.rec in
    let left : length x.words < length commands = (running_begun g s x sound there runs).0 in
    let c = item_there commands k (omega (arith, left, words)) in
    (c.0, c.1, is ∙ ap command_bytes c.1)

pub open_says : (f g : Facts) (client b : List ℕ) (blank : ℕ) (r : Reply) → IsSound g → MayGetReply (request.Open b blank) r → Says f g client r → OpenFits g client blank r
open_says f g client b blank (reply.Opened batch named command rec s) sound may says =
    let x : Session = new_session client batch rec named in
    (x, says.1.there, refl, may.1, command_is g s 0 x command sound says.1.there says.1.stands refl says.3)
open_says f g client b blank _ sound may says = tt

pub answer_says : (f g : Facts) (client : List ℕ) (s k sw : ℕ) (r : Reply) → IsSound g → MayGetReply (request.Answer s k sw) r → Says f g client r → AnswerFits g client s k r
answer_says f g client s k sw (reply.Next command index named) sound may says =
    let x = says.0 in
    let own = says.1 in
    (may.0, may.1, x, ap (session_numbered g.sessions) (sym may.0) ∙ own.there, own.own, command_is g named index x command sound own.there own.stands says.2 says.3)
answer_says f g client s k sw (reply.Good named) sound may says =
    let own = says.1 in
    (may, says.0, ap (session_numbered g.sessions) (sym may) ∙ own.there, own.stands)
answer_says f g client s k sw _ sound may says = tt

-- if the reply opens a session, `blank` isn't charged in `f`
abbrev pub OpensFree : Facts → ℕ → Reply → Type 0
OpensFree f blank (reply.Opened batch named command rec s) = is_charged f blank ≡ false
OpensFree f blank _ = ⊤

pub opens_free : (f g : Facts) (client b : List ℕ) (blank : ℕ) (r : Reply) → MayGetReply (request.Open b blank) r → Says f g client r → OpensFree f blank r
opens_free f g client b blank (reply.Opened batch named command rec s) may says = ap (is_charged f) (sym may.1) ∙ says.2
opens_free f g client b blank _ may says = tt

-- ---- ranges

-- No job request gets the reply `Released` or `NumberReleased`.
never_released : (q : Request) (mark : ℕ) → MayGetReply q (reply.Released mark) → ⊥
never_released (request.Product p) mark may = may
never_released _ mark may = may

never_gone : (q : Request) (mark : ℕ) → MayGetReply q (reply.NumberReleased mark) → ⊥
never_gone (request.Product p) mark may = may
never_gone _ mark may = may

-- A reply to a job request satisfies `IsReply` if it is in its ranges.
pub reply_ranged : (q : Request) (r : Reply) → MayGetReply q r → IsRangedReply r → IsReply r
reply_ranged q (reply.Product p made) may is = is
reply_ranged q (reply.Lot l made) may is = is
reply_ranged q (reply.Import b records made rows) may is = (is.0, omega (arith, is.1), omega (arith, is.2))
reply_ranged q (reply.Opened b blank command rec s) may is = (is.0, omega (arith, is.1), is.2, is.3, omega (arith, is.4))
reply_ranged q (reply.Next command k s) may is = (is.0, omega (arith, is.1), omega (arith, is.2))
reply_ranged q (reply.Waiting b rec) may is = is
reply_ranged q (reply.Withdrawn b rec) may is = is
reply_ranged q (reply.Closed b) may is = is
reply_ranged q (reply.Refused why) may is = tt
reply_ranged q (reply.Released mark) may is = absurd (never_released q mark may)
reply_ranged q (reply.NumberReleased mark) may is = absurd (never_gone q mark may)
reply_ranged q _ may is = omega (arith, is)
