-- A run whose text was printed into a buffer that is then flushed, successfully or not.
use Rattle.std.proofs.Common.{◌≡◌, ◌⊎◌, ℕ, List, [], Option, Some, None, Result, Ok, Err, inl, inr, refl, subst, append-nil}
use Rattle.std.specs.Io.KnownBytes.{Appends, Keeps}
use Rattle.std.proofs.KnownBytes.{Appends-kept}
use Rattle.store_data.specs.declared.row.Product.{Product}
use Rattle.event_lines.specs.declared.log.EventLog.{EventLog}
use Rattle.text_io.specs.Inputs.{Agrees}
use Rattle.text_io.specs.Written.{AppendsBeginning}
use Rattle.plan_print.specs.PlanEnds.{PlanEndsWithEvents}
use Rattle.text_io.specs.declared.stop.RunStop.{RunStop}
use Rattle.text_io.specs.declared.stop.RunStop.TheVariants.{Own, Stream}
use Rattle.text_io.specs.declared.stop.StreamFault.TheVariants as stream
use Rattle.job_facts.specs.Store.{State}
use Rattle.job_facts.specs.declared.store.StoreFault.{StoreFault}
use Rattle.job_facts.specs.declared.store.StoreFault.TheVariants as fault
use Rattle.drill.specs.Floors.{Floor}
use Rattle.drill.specs.Steps.{LineEffect}
use Rattle.drill.specs.Ends.{EndsAt, IsWritten, Runs, printed, unopened}
use Rattle.drill.specs.declared.stop.DrillFault.{DrillFault}
use Rattle.drill.specs.declared.stop.DrillFault.TheVariants as drill
use Rattle.over_tables.specs.Drills.{DrillEnds}
use Rattle.subcommands.specs.Runs.{DrillRuns, PlanRuns}
use Rattle.subcommands.specs.declared.end.End.{End}
use Rattle.subcommands.specs.declared.end.End.TheVariants.{Done, BadLine, WriteFailed}

-- the buffer was flushed and the run has the end `wanted`, or the run ends with a failed write
abbrev pub Flushes : End → End → List ℕ → Type 0
Flushes wanted end buffer = ((end ≡ wanted) × (buffer ≡ [])) ⊎ (end ≡ WriteFailed)

-- A complete text is a prefix of itself.
whole : (before mid after : Option (List ℕ)) (text : List ℕ) → Appends before mid text → Keeps mid after → AppendsBeginning before after text
whole before mid after text written kept = (text, [], append-nil text, Appends-kept before mid after text written kept)

pub plan_flushed : {E : Type 0} (contents : E → Option (List ℕ)) (p : Product) (known before mid after : Option (List ℕ)) (old new : EventLog E) (end : End) (buffer : List ℕ)
    → ((raw : List ℕ) × Agrees known raw × PlanEndsWithEvents contents p raw before mid old new (Ok tt)) → Keeps mid after → Flushes Done end buffer
    → PlanRuns contents p known before after old new end
plan_flushed contents p known before mid after old new end buffer (raw, agrees, ((rows, few, is, written), noted)) kept (inl done) =
    (raw, agrees, Ok tt, done.0, ((rows, few, is, Appends-kept before mid after _ written kept), noted))
plan_flushed contents p known before mid after old new end buffer (raw, agrees, ((rows, few, is, written), noted)) kept (inr failed) =
    (raw, agrees, Err (Stream stream.WriteFailed), failed, ((rows, few, is, whole before mid after _ written kept), noted))

-- ---- a drill

-- A run of lines is still a run if its text was written to another output.
rewritten : {S : Type 0} (state : S → State) (usable : S → Type 0) (s : S) (fl : Floor) (count : ℕ) (ls : List (List ℕ)) (before mid after : Option (List ℕ)) (r : Result (Unit {0}) (RunStop DrillFault)) (runs : Runs state usable s fl count ls before mid r)
    → IsWritten before after (printed runs.did runs.ended_in) r → Runs state usable s fl count ls before after r
rewritten state usable s fl count ls before mid after r runs written = record {
  did = runs.did;
  last = runs.last;
  floor = runs.floor;
  left = runs.left;
  ended_in = runs.ended_in;
  done = runs.done;
  ends = runs.ends;
  written = written;
}

lost : {S : Type 0} (state : S → State) (usable : S → Type 0) (s : S) (fl : Floor) (count : ℕ) (ls : List (List ℕ)) (before mid after : Option (List ℕ)) (r : Result (Unit {0}) (RunStop DrillFault)) (runs : Runs state usable s fl count ls before mid r)
    → runs.ended_in ≡ None → AppendsBeginning before after (printed runs.did runs.ended_in) → Runs state usable s fl count ls before after (Err (Stream stream.WriteFailed))
lost state usable s fl count ls before mid after r runs went_on written = record {
  did = runs.did;
  last = runs.last;
  floor = runs.floor;
  left = runs.left;
  ended_in = None;
  done = runs.done;
  ends = tt;
  written = subst (λ d. AppendsBeginning before after (printed runs.did d)) went_on written;
}

-- A drill that succeeds or ends at a malformed line wasn't ended by a line that was run.
none_late : {S : Type 0} (state : S → State) (s : S) (fl : Floor) (count : ℕ) (left : List (List ℕ)) (ended_in : Option LineEffect) (u : Unit {0}) → EndsAt state s fl count left ended_in (Ok u) → ended_in ≡ None
none_late state s fl count left None u ends = refl
none_late state s fl count left (Some did) u ends = absurd ends

none_bad : {S : Type 0} (state : S → State) (s : S) (fl : Floor) (count n : ℕ) (left : List (List ℕ)) (ended_in : Option LineEffect) → EndsAt state s fl count left ended_in (Err (Own (drill.BadLine n))) → ended_in ≡ None
none_bad state s fl count n left None ends = refl
none_bad state s fl count n left (Some did) ends = absurd ends

done_went_on : {S : Type 0} (state : S → State) (usable : S → Type 0) (s : S) (fl : Floor) (count : ℕ) (ls : List (List ℕ)) (before mid : Option (List ℕ)) (u : Unit {0}) (runs : Runs state usable s fl count ls before mid (Ok u))
    → runs.ended_in ≡ None
done_went_on state usable s fl count ls before mid u runs = none_late state runs.last runs.floor count runs.left runs.ended_in u runs.ends

bad_went_on : {S : Type 0} (state : S → State) (usable : S → Type 0) (s : S) (fl : Floor) (count n : ℕ) (ls : List (List ℕ)) (before mid : Option (List ℕ)) (runs : Runs state usable s fl count ls before mid (Err (Own (drill.BadLine n))))
    → runs.ended_in ≡ None
bad_went_on state usable s fl count n ls before mid runs = none_bad state runs.last runs.floor count n runs.left runs.ended_in runs.ends

never_unopened : (u : Unit {0}) (fault : StoreFault) → Ok u ≡ Err (unopened fault) → ⊥
never_unopened u fault is = cc

no_bad_line : (r : Result (Unit {0}) (RunStop DrillFault)) (n : ℕ) (fault : StoreFault) → r ≡ Err (Own (drill.BadLine n)) → r ≡ Err (unopened fault) → ⊥
no_bad_line r n fault.Memory is at = cc
no_bad_line r n fault.Device is at = cc
no_bad_line r n fault.Full is at = cc

pub drill_flushed : (known before mid after : Option (List ℕ)) (end : End) (buffer : List ℕ)
    → DrillEnds known before mid (Ok tt) → Keeps mid after → Flushes Done end buffer → DrillRuns known before after end
drill_flushed known before mid after end buffer (inl (fault, is, stays)) kept flushes = absurd (never_unopened tt fault is)
drill_flushed known before mid after end buffer (inr (s, holds, (raw, agrees, runs))) kept (inl done) =
    (Ok tt, done.0, inr (s, holds, (raw, agrees, rewritten _ _ s _ _ _ before mid after _ runs (Appends-kept before mid after _ runs.written kept))))
drill_flushed known before mid after end buffer (inr (s, holds, (raw, agrees, runs))) kept (inr failed) = (
  Err (Stream stream.WriteFailed),
  failed,
  inr (
    s,
    holds,
    (
      raw,
      agrees,
      lost _ _ s _ _ _ before mid after _ runs (done_went_on _ _ s _ _ _ before mid _ runs) (whole before mid after _ runs.written kept),
    ),
  ),
)

pub bad_line_flushed : (n : ℕ) (known before mid after : Option (List ℕ)) (end : End) (buffer : List ℕ)
    → DrillEnds known before mid (Err (Own (drill.BadLine n))) → Keeps mid after → Flushes (BadLine n) end buffer → DrillRuns known before after end
bad_line_flushed n known before mid after end buffer (inl (fault, is, stays)) kept flushes = absurd (no_bad_line (Err (Own (drill.BadLine n))) n fault refl is)
bad_line_flushed n known before mid after end buffer (inr (s, holds, (raw, agrees, runs))) kept (inl done) =
    (Err (Own (drill.BadLine n)), done.0, inr (s, holds, (raw, agrees, rewritten _ _ s _ _ _ before mid after _ runs (Appends-kept before mid after _ runs.written kept))))
bad_line_flushed n known before mid after end buffer (inr (s, holds, (raw, agrees, runs))) kept (inr failed) = (
  Err (Stream stream.WriteFailed),
  failed,
  inr (
    s,
    holds,
    (
      raw,
      agrees,
      lost _ _ s _ _ _ before mid after _ runs (bad_went_on _ _ s _ _ n _ before mid runs) (whole before mid after _ runs.written kept),
    ),
  ),
)
