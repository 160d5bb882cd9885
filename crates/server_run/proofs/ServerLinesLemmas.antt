-- Lemmas about the lines of a server, by the reason why it stops.
use Rattle.std.proofs.Common.{◌≡◌, ◌<◌, ℕ, List, Option, inl, inr, subst, sym}
use Rattle.std.specs.Prelude.{Result, Ok, Err, IfErr, OnErr, OnOk}
use Rattle.std.specs.Io.KnownBytes.{Appends}
use Rattle.std.proofs.KnownBytes.{Appends-kept, Appends-trans}
use Rattle.job_facts.specs.declared.store.StoreFault.{StoreFault}
use Rattle.server.specs.declared.connections.NextFault.{NextFault}
use Rattle.server.specs.declared.connections.NextFault.TheVariants as next
use Rattle.server_run.specs.declared.stopping.ServeStop.{ServeStop}
use Rattle.server_run.specs.declared.stopping.ServeStop.TheVariants.{Next, Write, Memory, Store}
use Rattle.server_run.specs.ObservedRuns.{IsStopOf}
use Rattle.server_run.specs.ServerLines.{WritesFirst, WritesLast, WritesLines, listening_text, of_next}

-- the first line was written, and connections were served
pub first-served : (P : NextFault → Type 0) (port turns count : ℕ) (before after : Option (List ℕ)) (outcome : Result (Unit {0}) ServeStop)
    → Appends before after (listening_text port) → OnOk outcome (count ≡ turns) → OnErr outcome (count < turns)
    → IfErr outcome (λ stop. (fault : NextFault) × (stop ≡ of_next fault) × P fault) → WritesFirst P port turns count before after outcome
first-served P port turns count before after (Ok u) written all fewer cause = (all, written)
first-served P port turns count before after (Err stop) written all fewer (next.Device, is, why) =
    subst (λ (s : ServeStop). WritesFirst P port turns count before after (Err s)) (sym is) (fewer, why, written)
first-served P port turns count before after (Err stop) written all fewer (next.Memory, is, why) =
    subst (λ (s : ServeStop). WritesFirst P port turns count before after (Err s)) (sym is) (inr (written, inl (fewer, why)))

-- the server stopped before the last line
before-last : (closed : Type 0) (P : NextFault → Type 0) (port turns count : ℕ) (before after : Option (List ℕ)) (stop : ServeStop) → WritesFirst P port turns count before after (Err stop)
    → WritesLines closed P port turns count before after (Err stop)
before-last closed P port turns count before after Next first = first
before-last closed P port turns count before after Write first = inl first
before-last closed P port turns count before after Memory first = first
before-last closed P port turns count before after (Store fault) first = absurd first

-- both lines of a run
pub both-lines : (closed : Type 0) (P : NextFault → Type 0) (port turns count : ℕ) (before mid after : Option (List ℕ)) (outcome result : Result (Unit {0}) ServeStop)
    → WritesFirst P port turns count before mid outcome → WritesLast closed turns outcome mid after result → WritesLines closed P port turns count before after result
both-lines closed P port turns count before mid after (Err stop) result first (stops, same) =
    subst (WritesLines closed P port turns count before after) (sym stops)
    (subst (λ (a : Option (List ℕ)). WritesLines closed P port turns count before a (Err stop)) (sym same) (before-last closed P port turns count before mid stop first))
both-lines closed P port turns count before mid after (Ok u) (Ok v) (all, first) (is, last) = (is, all, Appends-trans before mid after _ _ first last)
both-lines closed P port turns count before mid after (Ok u) (Err Write) (all, first) (is, (front, back, whole, last)) =
    inr (is, all, (front, back, whole, Appends-trans before mid after _ _ first last))
both-lines closed P port turns count before mid after (Ok u) (Err Memory) (all, first) last = inr (Appends-kept before mid after _ first last, inr all)
both-lines closed P port turns count before mid after (Ok u) (Err (Store fault)) (all, first) last = (all, Appends-kept before mid after _ first last)
both-lines closed P port turns count before mid after (Ok u) (Err Next) first last = absurd last

no-store : (P : NextFault → Type 0) (port turns count : ℕ) (before mid : Option (List ℕ)) (stop : ServeStop) (fault : StoreFault) → WritesFirst P port turns count before mid (Err stop) → stop ≡ Store fault → ⊥
no-store P port turns count before mid stop fault first is = subst (λ (s : ServeStop). WritesFirst P port turns count before mid (Err s)) is first

-- if the server stopped because the store couldn't be closed, it reports the fault of the close
pub store-stops : (closed : Type 0) (P : NextFault → Type 0) (port turns count : ℕ) (before mid after : Option (List ℕ)) (outcome : Result (Unit {0}) ServeStop)
    (closing : Result (Unit {0}) StoreFault) (result : Result (Unit {0}) ServeStop) → WritesFirst P port turns count before mid outcome
    → WritesLast closed turns outcome mid after result → OnOk outcome (IsStopOf result closing) → (fault : StoreFault) → result ≡ Err (Store fault) → closing ≡ Err fault
store-stops closed P port turns count before mid after (Err stop) closing result first (stops, same) of fault is =
    absurd (no-store P port turns count before mid stop fault first cc)
store-stops closed P port turns count before mid after (Ok u) closing result first last of fault is = of fault is
