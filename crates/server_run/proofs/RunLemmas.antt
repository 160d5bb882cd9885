-- Lemmas about a run of connections that continues.
use Rattle.std.proofs.Common.{◌≡◌, ◌≤◌, ℕ, length, arith, Result, Bool, false, List, [], ◌∷◌, ◌++◌, Option, Some, None, refl, ap, sym, subst, ◌∙◌, append-nil, append_assoc}
use Rattle.std.specs.Prelude.{IsTrue, is_some, option_map}
use Rattle.std.specs.Io.KnownBytes.{Appends}
use Rattle.std.proofs.KnownBytes.{Keeps-refl}
use Rattle.std.proofs.lemmas.Bool.{false≢true}
use Rattle.std.proofs.lemmas.Option.{none-some}
use Rattle.job_facts.specs.declared.store.StoreFault.{StoreFault}
use Rattle.job_facts.specs.Contents.{Contents}
use Rattle.job_facts.specs.Store.{IsHonest, State, Stays}
use Rattle.arrivals.specs.Meaning.{contents_after}
use Rattle.reply_store.specs.Runs.{AreLeftInTurn, decided}
use Rattle.http_messages.specs.Messages.{Agrees}
use Rattle.job_facts.specs.Reopening.{counts_of}
use Rattle.job_facts.specs.declared.server_store.FaultCounts.{FaultCounts}
use Rattle.server.specs.Exchanges.{Exchange, Moves, Opens, Queue, Serves, ServesAll, moved, tries}
use Rattle.server.proofs.Serving.{doubts_at, moves_more, moves_none, serves_more, serves_none, serves_stays}
use Rattle.event_lines.specs.Notes.{NotesAll}
use Rattle.event_lines.specs.declared.level.Level.{Level}
use Rattle.server_run.specs.ConnectionLines.{connection_lines, fails_after, lines_at}
use Rattle.server_run.specs.ImportLines.{IsProductOf, ReadsProduct}
use Rattle.server_run.specs.Observations.{IsObservationOf}
use Rattle.server_run.specs.declared.observation.Observation.{Observation}
use Rattle.event_lines.proofs.NotesLemmas.{both-all}
use Rattle.server_run.specs.Openings.{AreHoldings, NotesClose, closing_lines, opening_lines}
use Rattle.server_run.specs.ObservedRuns.{AreObservations, AreProducts, CountsGoOn, IsStopOf, NotesRun, ObservesAll}
use Rattle.server_run.specs.declared.stopping.ServeStop.{ServeStop}
use Rattle.server_run.specs.declared.opening.Holdings.{Holdings}
use Rattle.server_run.specs.declared.opening.Opened.{Opened}

-- the store is failing after these connections
abbrev pub fails_through : Bool → List Observation → Bool
fails_through is_failing [] = is_failing
fails_through is_failing (o ∷ os) = fails_through (fails_after is_failing o) os

fails-push : (is_failing : Bool) (os : List Observation) (o : Observation) → fails_through is_failing (os ++ o ∷ []) ≡ fails_after (fails_through is_failing os) o
fails-push is_failing [] o = refl
fails-push is_failing (p ∷ os) o = fails-push (fails_after is_failing p) os o

-- the store is failing after one more connection, from whether it was failing before it
pub fails-next : (was now : Bool) (os : List Observation) (o : Observation) → was ≡ fails_through false os → now ≡ fails_after was o
    → now ≡ fails_through false (os ++ o ∷ [])
fails-next was now os o before after = after ∙ ap (λ (b : Bool). fails_after b o) before ∙ sym (fails-push false os o)

-- the event lines after one more connection
lines-push : (level : Level) (is_failing : Bool) (os : List Observation) (o : Observation)
    → connection_lines level is_failing (os ++ o ∷ []) ≡ connection_lines level is_failing os ++ lines_at level (fails_through is_failing os) o
lines-push level is_failing [] o = simp append-nil
lines-push level is_failing (p ∷ os) o =
    ap (λ (l : List (List ℕ)). lines_at level is_failing p ++ l) (lines-push level (fails_after is_failing p) os o)
    ∙ sym (append_assoc (lines_at level is_failing p) (connection_lines level (fails_after is_failing p) os) (lines_at level (fails_through (fails_after is_failing p) os) o))

counts-push : (before now after : FaultCounts) (os : List Observation) (o : Observation) → CountsGoOn before now os → o.before ≡ now → o.after ≡ after
    → CountsGoOn before after (os ++ o ∷ [])
counts-push before now after [] o all first last = (first ∙ sym all, last)
counts-push before now after (p ∷ os) o (is, all) first last = (is, counts-push p.after now after os o all first last)

observations-push : (known : Bool) (es : List Exchange) (os : List Observation) (e : Exchange) (o : Observation) → AreObservations known es os
    → IsObservationOf known known e o → AreObservations known (es ++ e ∷ []) (os ++ o ∷ [])
observations-push known [] [] e o all one = (one, tt)
observations-push known [] (p ∷ os) e o all one = absurd all
observations-push known (d ∷ es) [] e o all one = absurd all
observations-push known (d ∷ es) (p ∷ os) e o (first, all) one = (first, observations-push known es os e o all one)

-- the product that was read for one more connection
products-push : (c : Contents) (done es : List Exchange) (os : List Observation) (e : Exchange) (o : Observation) → AreProducts c done es os
    → IsProductOf (contents_after c (decided (tries ((done ++ es) ++ e ∷ [])))) o.meaning o.product → AreProducts c done (es ++ e ∷ []) (os ++ o ∷ [])
products-push c done [] [] e o all one = (subst (λ (l : List Exchange). IsProductOf (contents_after c (decided (tries (l ++ e ∷ [])))) o.meaning o.product) (append-nil done) one, tt)
products-push c done [] (p ∷ os) e o all one = absurd all
products-push c done (d ∷ es) [] e o all one = absurd all
products-push c done (d ∷ es) (p ∷ os) e o (first, all) one = (
  first,
  products-push c (done ++ d ∷ []) es os e o all
      (subst (λ (l : List Exchange). IsProductOf (contents_after c (decided (tries (l ++ e ∷ [])))) o.meaning o.product) (sym (append_assoc done (d ∷ []) es)) one),
)

-- if the queue is known, the input and the written bytes of the connection in progress are known
opened-known : (queue : Option Queue) (brings contents : Option (List ℕ)) → Opens queue brings contents → IsTrue (is_some queue)
    → IsTrue (is_some brings) × IsTrue (is_some contents)
opened-known None brings contents opens known = absurd (false≢true known)
opened-known (Some q) brings contents (bytes, rest, coming, is, empty) known = (ap is_some is, ap is_some empty)

-- a known queue stays known
moved-known : (before now : Option Queue) (es : List Exchange) → Moves before now es → IsTrue (is_some before) → IsTrue (is_some now)
moved-known None now es moves known = absurd (false≢true known)
moved-known (Some q) now es (rest, came, is) known = ap is_some is

-- an observation of the connection in progress
observation-known : (before now : Option Queue) (brings contents : Option (List ℕ)) (es : List Exchange) (e : Exchange) (o : Observation) → Moves before now es
    → Opens now brings contents → IsObservationOf (is_some brings) (is_some contents) e o → IsObservationOf (is_some before) (is_some before) e o
observation-known before now brings contents es e o moves opens one = record {
  served = one.served;
  meant = one.meant;
  request = λ known. one.request (opened-known now brings contents opens (moved-known before now es moves known)).0;
  reply = λ known. one.reply (opened-known now brings contents opens (moved-known before now es moves known)).1;
}

-- no connection was served yet
pub observes-none : {S : Type 0} (state : S → State) (store : S) (queue : Option Queue) (level : Level) (known : Option (List ℕ))
    → ObservesAll state store store queue queue level known known [] []
observes-none state store queue level known = record {
  moves = moves_none queue;
  serves = λ first begun. begun;
  observed = tt;
  counts = refl;
  products = λ honest c held. tt;
  noted = Keeps-refl known;
}

-- one more connection was started, served and observed, its product was read, it was taken back,
-- and its lines were written
pub observes-push : {S : Type 0} (state : S → State) → AreLeftInTurn state → (old now served new : S) (waiting ready out left : Option Queue) (level : Level)
    (before mid after brings contents written : Option (List ℕ)) (es : List Exchange) (os : List Observation) (e : Exchange) (o : Observation)
    → ObservesAll state old now waiting ready level before mid es os
    → out ≡ ready → Opens out brings contents → Agrees brings e.input → Appends contents written e.written → Serves (state now) (state served) e → Stays (state served) (state new)
    → ReadsProduct (state served) (state new) o.meaning o.product
    → IsObservationOf (is_some brings) (is_some contents) e o → o.before ≡ counts_of (state now) → o.after ≡ counts_of (state new)
    → left ≡ option_map (moved written o.served) out → NotesAll level mid after (lines_at level (fails_through false os) o)
    → ObservesAll state old new waiting left level before after (es ++ e ∷ []) (os ++ o ∷ [])
observes-push state turns old now served new waiting ready out left level before mid after brings contents written es os e o all same opens agrees appends serves stays read one first last back own =
    let moves : Moves waiting out es = subst (λ (q : Option Queue). Moves waiting q es) (sym same) all.moves in
    let whole = serves_more state turns old now served es e (all.serves old (serves_none state turns old)) serves in
    record {
      moves = subst (λ (q : Option Queue). Moves waiting q (es ++ e ∷ [])) (sym back) (moves_more waiting out es e brings contents written o.served moves opens agrees appends (sym one.served));
      serves = λ start begun. serves_stays state turns start served new (es ++ e ∷ []) (serves_more state turns start now served es e (all.serves start begun) serves) stays;
      observed = observations-push (is_some waiting) es os e o all.observed (observation-known waiting out brings contents es e o moves opens one);
      counts = counts-push (counts_of (state old)) (counts_of (state now)) (counts_of (state new)) os o all.counts first last;
      products = λ honest c held. let later : IsHonest (state served) = omega (arith, stays.doubts, honest) in
          let early : IsHonest (state now) = omega (arith, doubts_at e.meant (state now) (state served) e.served.decided serves.does, later) in
          products-push c [] es os e o (all.products early c held) (read honest (contents_after c (decided (tries (es ++ e ∷ [])))) (whole.leaves.contents later c held));
      noted = subst (NotesAll level before after) (sym (lines-push level false os o)) (both-all level before mid after _ _ all.noted own);
    }

-- nothing was served yet, and nothing was changed
pub serves-begun : {S : Type 0} (state : S → State) → AreLeftInTurn state → (old begun : S) → Stays (state old) (state begun) → ServesAll (state old) (state begun) []
serves-begun state turns old begun stays =
    let none = serves_none state turns old in
    record {
      means = none.means;
      leaves = turns.stays old old begun [] none.leaves stays;
      answered = λ h c held i e is. absurd (none-some e is);
      fixed = none.fixed;
      next = λ h c held i e is. absurd (none-some e is);
    }

-- the sizes read at the start are right if the device is correct until the end
holdings-later : (old begun new : State) (h : Holdings) → begun.doubts ≤ new.doubts → AreHoldings old begun h → AreHoldings old new h
holdings-later old begun new h doubts held = record {
  batches = λ honest. held.batches (omega arith);
  sessions = λ honest. held.sessions (omega arith);
  replies = λ honest. held.replies (omega arith);
}

-- the event lines of the database file, the connections, and the close
pub notes-run : {S : Type 0} (state : S → State) → AreLeftInTurn state → (old begun new : S) (closed : Type 0) (Unclosed : StoreFault → Type 0) (waiting left : Option Queue) (opened : Opened)
    (es : List Exchange) (os : List Observation) (count : ℕ) (closing : Result (Unit {0}) StoreFault) (result : Result (Unit {0}) ServeStop)
    (level level1 level2 : Level) (before first second after : Option (List ℕ)) (h : Holdings) → Stays (state old) (state begun) → AreHoldings (state old) (state begun) h
    → NotesAll level before first (opening_lines level opened h) → level1 ≡ level → ObservesAll state begun new waiting left level1 first second es os → level2 ≡ level1
    → length es ≡ count → NotesClose closed Unclosed count level2 second after closing → IsStopOf result closing
    → NotesRun closed Unclosed (state old) (state new) (is_some waiting) opened es result level before after
notes-run state turns old begun new closed Unclosed waiting left opened es os count closing result level level1 level2 before first second after h stays held opens same1 all same2 counted closes stop =
    let leaves = (all.serves begun (serves_none state turns begun)).leaves in
    record {
      holdings = h;
      observations = os;
      closing = closing;
      start = counts_of (state begun);
      held = holdings-later (state old) (state begun) (state new) h leaves.doubts held;
      observed = all.observed;
      counts = all.counts;
      products = λ honest c sound. all.products honest c (stays.contents (omega (arith, leaves.doubts, honest)) c sound);
      is_closed = closes.is_closed;
      why = closes.why;
      stop = stop;
      noted = both-all level before second after (opening_lines level opened h ++ connection_lines level false os) (closing_lines level (length es) closing)
          (both-all level before first second _ _ opens (subst (λ (l : Level). NotesAll l first second (connection_lines l false os)) same1 all.noted))
          (subst (λ (n : ℕ). NotesAll level second after (closing_lines level n closing)) (sym counted)
          (subst (λ (l : Level). NotesAll l second after (closing_lines l count closing)) (same2 ∙ same1) closes.noted));
    }
