-- Defines the observations of a server's connections, and the event lines of a whole run.
use Rattle.std.specs.Prelude.{◌≡◌, ℕ, Bool, false, List, [], ◌∷◌, ◌++◌, length, Option, is_some, IfErr, OnOk, Result, Err, ⊤}
use Rattle.job_facts.specs.declared.store.StoreFault.{StoreFault}
use Rattle.job_facts.specs.Contents.{Contents}
use Rattle.job_facts.specs.Store.{IsHonest, State}
use Rattle.job_facts.specs.Reopening.{counts_of}
use Rattle.job_facts.specs.declared.server_store.FaultCounts.{FaultCounts}
use Rattle.arrivals.specs.Meaning.{contents_after}
use Rattle.reply_store.specs.Runs.{decided}
use Rattle.server.specs.Exchanges.{Exchange, Moves, Queue, ServesAll, tries}
use Rattle.event_lines.specs.Notes.{NotesAll}
use Rattle.event_lines.specs.declared.level.Level.{Level}
use Rattle.server_run.specs.ConnectionLines.{connection_lines}
use Rattle.server_run.specs.ImportLines.{IsProductOf}
use Rattle.server_run.specs.Observations.{IsObservationOf}
use Rattle.server_run.specs.declared.observation.Observation.{Observation}
use Rattle.server_run.specs.Openings.{AreHoldings, closing_lines, opening_lines}
use Rattle.server_run.specs.declared.stopping.ServeStop.{ServeStop}
use Rattle.server_run.specs.declared.stopping.ServeStop.TheVariants.{Store}
use Rattle.server_run.specs.declared.opening.Holdings.{Holdings}
use Rattle.server_run.specs.declared.opening.Opened.{Opened}

-- there is one observation of each exchange, in order; its bytes are described only if they are
-- known
abbrev pub AreObservations : Bool → List Exchange → List Observation → Type 0
AreObservations known [] [] = ⊤
AreObservations known [] (o ∷ os) = ⊥
AreObservations known (e ∷ es) [] = ⊥
AreObservations known (e ∷ es) (o ∷ os) = IsObservationOf known known e o × AreObservations known es os

-- the counters before each connection are those after the one before it
abbrev pub CountsGoOn : FaultCounts → FaultCounts → List Observation → Type 0
CountsGoOn before after [] = before ≡ after
CountsGoOn before after (o ∷ os) = (o.before ≡ before) × CountsGoOn o.after after os

-- each product that was read is the product of the import in the contents after its connection, for
-- the contents `c` before the connections `done`, which precede these
abbrev pub AreProducts : Contents → List Exchange → List Exchange → List Observation → Type 0
AreProducts c done [] [] = ⊤
AreProducts c done [] (o ∷ os) = ⊥
AreProducts c done (e ∷ es) [] = ⊥
AreProducts c done (e ∷ es) (o ∷ os) =
    IsProductOf (contents_after c (decided (tries (done ++ e ∷ [])))) o.meaning o.product × AreProducts c (done ++ e ∷ []) es os

-- the connections `es` were served one at a time, observed as `os`, and their event lines were
-- written
pub record ObservesAll {S : Type 0} (state : S → State) (old new : S) (waiting left : Option Queue) (level : Level) (before after : Option (List ℕ))
    (es : List Exchange) (os : List Observation) : Type 0 where
  pub moves : Moves waiting left es
  pub serves : (first : S) → ServesAll (state first) (state old) [] → ServesAll (state first) (state new) es
  pub observed : AreObservations (is_some waiting) es os
  pub counts : CountsGoOn (counts_of (state old)) (counts_of (state new)) os
  pub products : IsHonest (state new) → (c : Contents) → (state old).holds c → AreProducts c [] es os
  pub noted : NotesAll level before after (connection_lines level false os)

-- all event lines of a run, in order: the database file, the connections, and the close
abbrev pub event_texts : Level → Opened → ℕ → Holdings → List Observation → Result (Unit {0}) StoreFault → List (List ℕ)
event_texts level opened count h os closing = opening_lines level opened h ++ connection_lines level false os ++ closing_lines level count closing

-- if the server stopped because the store couldn't be closed, it reports the fault of the close
abbrev pub IsStopOf : Result (Unit {0}) ServeStop → Result (Unit {0}) StoreFault → Type 0
IsStopOf result closing = (fault : StoreFault) → result ≡ Err (Store fault) → closing ≡ Err fault

-- the event lines of a run that served the exchanges `es` and closed the store were written;
-- `closed` holds if the close succeeded, and `Unclosed` of its fault if it failed
pub record NotesRun (closed : Type 0) (Unclosed : StoreFault → Type 0) (old new : State) (known : Bool) (opened : Opened) (es : List Exchange) (result : Result (Unit {0}) ServeStop)
    (level : Level) (before after : Option (List ℕ)) : Type 0 where
  pub holdings : Holdings
  pub observations : List Observation
  pub closing : Result (Unit {0}) StoreFault
  pub start : FaultCounts
  pub held : AreHoldings old new holdings
  pub observed : AreObservations known es observations
  pub counts : CountsGoOn start (counts_of new) observations
  pub products : IsHonest new → (c : Contents) → old.holds c → AreProducts c [] es observations
  pub is_closed : OnOk closing closed
  pub why : IfErr closing Unclosed
  pub stop : IsStopOf result closing
  pub noted : NotesAll level before after (event_texts level opened (length es) holdings observations closing)
