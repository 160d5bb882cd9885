-- Defines the input, the response and the effect of connections.
use Rattle.std.specs.Prelude.{◌≡◌, ◌⊎◌, ℕ, Bool, true, false, All, List, [], ◌∷◌, ◌++◌, map, take, drop, slice_get, Option, Some, IfSome, unwrap_or, Result, is_ok, ⊤}
use Rattle.std.specs.List.{flat_map}
use Rattle.job_facts.specs.declared.store.StoreFault.{StoreFault}
use Rattle.job_facts.specs.Contents.{Contents, no_contents}
use Rattle.job_facts.specs.Store.{State, IsHonest, Stays}
use Rattle.arrivals.specs.declared.kept.Kept.{Kept}
use Rattle.arrivals.specs.Meaning.{contents_after, reply_to}
use Rattle.arrivals.specs.Commands.{HandsOutNext}
use Rattle.reply_store.specs.Handled.{Handles, IsFirst}
use Rattle.reply_store.specs.Runs.{Tried, arrived, decided, Leaves}
use Rattle.http_requests.specs.declared.ask.Asked.{Asked}
use Rattle.http_requests.specs.declared.ask.Asked.TheVariants as asked
use Rattle.http_messages.specs.Messages.{HasHead}
use Rattle.server.specs.declared.served.Served.{Served}
use Rattle.http_requests.specs.Meant.{Meant, Broken, Refused, Asks, AsksNothing, Means}
use Rattle.http_requests.specs.declared.meaning.Meaning.{Meaning}
use Rattle.http_requests.specs.declared.meaning.Meaning.TheVariants as meaning
use Rattle.server.specs.Replies.{IsAnswer, IsUnavailable}

-- ---- one connection

-- `meaning` is the meaning `m`, or out of memory
abbrev pub IsMeaningOf : Meaning → Meant → Type 0
IsMeaningOf (meaning.Asks a) m = m ≡ Asks a
IsMeaningOf meaning.Broken m = m ≡ Broken
IsMeaningOf (meaning.Refused why) m = m ≡ Refused why
IsMeaningOf meaning.Memory m = ⊤

-- a served connection: the bytes that it brought, their meaning, the bytes written to it, and its
-- outcome
pub record Exchange : Type 0 where
  pub input : List ℕ
  pub meant : Meant
  pub written : List ℕ
  pub served : Served

-- `e` has the response for the contents `c`; or, only if the connection brought a valid head, the
-- response that the store is unavailable
abbrev pub IsAnswered : Contents → Exchange → Type 0
IsAnswered c e = IsAnswer c e.meant e.served e.written ⊎ (HasHead e.input × IsUnavailable e.served e.written)

-- the response to a message without a request doesn't depend on the store or its device
abbrev pub IsFixed : Exchange → Type 0
IsFixed e = AsksNothing e.meant → (c : Contents) → IsAnswered c e

-- an arrival is handled; an account changes nothing and decides nothing
abbrev pub AskedDoes : Asked → State → State → Bool → Type 0
AskedDoes (asked.Account w) old new was_decided = Stays old new × (was_decided ≡ false)
AskedDoes (asked.Arrival a) old new was_decided = (outcome : Result Kept StoreFault) × Handles old new (arrived a) outcome × (was_decided ≡ is_ok outcome)

abbrev pub Does : Meant → State → State → Bool → Type 0
Does Broken old new was_decided = Stays old new × (was_decided ≡ false)
Does (Refused why) old new was_decided = Stays old new × (was_decided ≡ false)
Does (Asks a) old new was_decided = AskedDoes a old new was_decided

-- a command in the reply to a decided arrival with a new number is the next one of its record's
-- sequence
abbrev pub IsNext : Contents → Meant → Bool → Type 0
IsNext c Broken was_decided = ⊤
IsNext c (Refused why) was_decided = ⊤
IsNext c (Asks (asked.Account w)) was_decided = ⊤
IsNext c (Asks (asked.Arrival a)) was_decided = was_decided ≡ true → IsFirst c (arrived a) → HandsOutNext c.facts (reply_to c.facts c.marks (arrived a))

-- the store in state `old` serves the connection `e`, and is then in state `new`
pub record Serves (old new : State) (e : Exchange) : Type 0 where
  pub means : Means e.input e.meant
  pub does : Does e.meant old new e.served.decided
  pub answered : IsHonest new → (c : Contents) → old.holds c → IsAnswered c e
  pub fixed : IsFixed e
  pub next : (c : Contents) → old.holds c → IsNext c e.meant e.served.decided

-- ---- lists of connections

-- the arrival that a connection brought, if any, and whether it was decided
abbrev pub asked_tries : Asked → Bool → List Tried
asked_tries (asked.Account w) was_decided = []
asked_tries (asked.Arrival a) was_decided = (arrived a, was_decided) ∷ []

abbrev pub tries_at : Meant → Bool → List Tried
tries_at Broken was_decided = []
tries_at (Refused why) was_decided = []
tries_at (Asks a) was_decided = asked_tries a was_decided

abbrev pub tries_of : Exchange → List Tried
tries_of e = tries_at e.meant e.served.decided

abbrev pub tries : List Exchange → List Tried
tries es = flat_map tries_of es

-- each connection gets the response for the contents after the decided arrivals before it
abbrev pub AreAnswered : Contents → List Exchange → Type 0
AreAnswered c es = (i : ℕ) (e : Exchange) → slice_get es i ≡ Some e → IsAnswered (contents_after c (decided (tries (take i es)))) e

abbrev pub AreNext : Contents → List Exchange → Type 0
AreNext c es = (i : ℕ) (e : Exchange) → slice_get es i ≡ Some e → IsNext (contents_after c (decided (tries (take i es)))) e.meant e.served.decided

-- the store in state `old` serves the connections `es`, and is then in state `new` (the main
-- theorem, for any store)
pub record ServesAll (old new : State) (es : List Exchange) : Type 0 where
  pub means : All (λ (e : Exchange). Means e.input e.meant) es
  pub leaves : Leaves old new (tries es)
  pub answered : IsHonest new → (c : Contents) → old.holds c → AreAnswered c es
  pub fixed : All IsFixed es
  pub next : IsHonest new → (c : Contents) → old.holds c → AreNext c es

-- ---- sources of connections

-- a connection that was taken back: the bytes that it brought, the bytes written to it, and its
-- outcome
pub record Entry : Type 0 where
  pub input : List ℕ
  pub written : List ℕ
  pub served : Served

abbrev pub shown : Exchange → Entry
shown e = record { input = e.input; written = e.written; served = e.served }

-- the connections that were taken back, and the bytes of those to come, in order
pub record Queue : Type 0 where
  pub done : List Entry
  pub coming : List (List ℕ)

-- the queue after its first connection was taken back with the written bytes `contents`
abbrev pub moved : Option (List ℕ) → Served → Queue → Queue
moved contents served q =
    record { done = q.done ++ record { input = unwrap_or (slice_get q.coming 0) []; written = unwrap_or contents []; served = served } ∷ []; coming = drop 1 q.coming }

-- the connection in progress is the first of those to come, and nothing was written to it
abbrev pub Opens : Option Queue → Option (List ℕ) → Option (List ℕ) → Type 0
Opens queue brings contents =
    IfSome queue (λ (q : Queue). (bytes : List ℕ) × (rest : List (List ℕ)) × (q.coming ≡ bytes ∷ rest) × (brings ≡ Some bytes) × (contents ≡ Some []))

-- exactly the connections `es` were served
abbrev pub Moves : Option Queue → Option Queue → List Exchange → Type 0
Moves before after es =
    IfSome before (λ (q : Queue). (rest : List (List ℕ)) × (q.coming ≡ map (λ (e : Exchange). e.input) es ++ rest) × (after ≡ Some (record { done = q.done ++ map shown es; coming = rest })))

-- connections with the bytes `inputs` were served as `es` over an empty store, and left the
-- contents `after` (the main theorem, for a list of inputs)
pub record IsServed (inputs : List (List ℕ)) (done : List Entry) (after : Contents) (es : List Exchange) : Type 0 where
  pub brought : map (λ (e : Exchange). e.input) es ≡ inputs
  pub kept : done ≡ map shown es
  pub means : All (λ (e : Exchange). Means e.input e.meant) es
  pub answered : AreAnswered no_contents es
  pub next : AreNext no_contents es
  pub left : after ≡ contents_after no_contents (decided (tries es))
