-- Later facts: all earlier facts are still known, and sessions have only grown.
use Rattle.std.specs.Prelude.{◌≡◌, ◌≢◌, ◌⊎◌, ◌≤◌, ◌<◌, ◌↔◌, ℕ, Bool, true, false, List, [], ◌∷◌, ◌++◌, length, Some, ⊤}
use Rattle.job_facts.specs.declared.facts.SessionState.TheVariants as session
use Rattle.job_facts.specs.declared.request.Request.{Request}
use Rattle.job_facts.specs.declared.request.Request.TheVariants as request
use Rattle.job_facts.specs.Facts.{Facts, Session}
use Rattle.job_facts.specs.States.{commands_for, session_numbered, session_state}

-- ---- everything except sessions

-- `ys` is `xs`, possibly with more elements appended.
abbrev pub IsMore : {X : Type 0} → List X → List X → Type 0
IsMore {X} xs ys = (more : List X) × (ys ≡ xs ++ more)

-- `g` contains everything that `f` knows about products, blanks, batches and records, in the same
-- order.
pub record KnowsMore (f g : Facts) : Type 0 where
  pub products : IsMore f.products g.products
  pub lots : IsMore f.lots g.lots
  pub batches : IsMore f.batches g.batches
  pub discarded : IsMore f.discarded g.discarded
  pub remakes : IsMore f.remakes g.remakes
  pub withdrawn : IsMore f.withdrawn g.withdrawn
  pub closed : IsMore f.closed g.closed

-- ---- sessions

-- Session `s`, which is `x` in `f`, has only grown in `g`. It has the same machine, record and
-- blank, status words were only appended, and if it was ended, it is still ended. If it is good or
-- spoiled in `f`, it is unchanged.
pub record IsLaterSession (f g : Facts) (s : ℕ) (x : Session) : Type 0 where
  pub now : Session
  pub there : session_numbered g.sessions s ≡ Some now
  pub machine : now.machine ≡ x.machine
  pub batch : now.batch ≡ x.batch
  pub rec : now.rec ≡ x.rec
  pub blank : now.blank ≡ x.blank
  pub words : IsMore x.words now.words
  pub ended : x.ended ≡ true → now.ended ≡ true
  pub commands : commands_for g x.batch x.rec ≡ commands_for f x.batch x.rec
  pub over : session_state f x ≢ session.Running → (now ≡ x) × (session_state g x ≡ session_state f x)

-- Each session of `f` has only grown in `g`.
abbrev pub Later : Facts → Facts → Type 0
Later f g = (s : ℕ) (x : Session) → session_numbered f.sessions s ≡ Some x → IsLaterSession f g s x

-- The sessions of all machines except `client` are the same in `f` and `g`.
abbrev pub OtherSessionsStay : List ℕ → Facts → Facts → Type 0
OtherSessionsStay client f g = (s : ℕ) (x : Session) → x.machine ≢ client → (session_numbered f.sessions s ≡ Some x) ↔ (session_numbered g.sessions s ≡ Some x)

-- The request may change a session.
abbrev pub is_on_session : Request → Bool
is_on_session (request.Open b blank) = true
is_on_session (request.Answer s k sw) = true
is_on_session (request.Abort s) = true
is_on_session request.Reset = true
is_on_session _ = false

-- ---- status words

-- From `f` to `g`, a session's status words are unchanged, or `r` appended one of them: `r` is an
-- `answer` for the next index of this session.
abbrev pub TakesInTurn : Request → Facts → Facts → Type 0
TakesInTurn r f g = (s : ℕ) (x now : Session) → session_numbered f.sessions s ≡ Some x → session_numbered g.sessions s ≡ Some now
    → (now.words ≡ x.words) ⊎ ((sw : ℕ) × (r ≡ request.Answer s (length x.words) sw) × (now.words ≡ x.words ++ sw ∷ []))

-- No session has more status words than `most` allows for its blank.
abbrev pub WordsWithin : (ℕ → ℕ) → Facts → Type 0
WordsWithin most f = (s : ℕ) (x : Session) → session_numbered f.sessions s ≡ Some x → length x.words ≤ most x.blank

-- If the request is an `answer`, its session exists, and its index is below the limit that `most`
-- sets for the session's blank.
abbrev pub AnswersWithin : (ℕ → ℕ) → Facts → Request → Type 0
AnswersWithin most f (request.Answer s k sw) = (x : Session) × (session_numbered f.sessions s ≡ Some x) × (k < most x.blank)
AnswersWithin most f _ = ⊤
