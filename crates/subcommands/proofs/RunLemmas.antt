-- Lemmas: runs of `plan` and `feed` without their event lines, and a run that ends before it reads
-- its input.
use Rattle.std.proofs.Common.{ℕ, List, [], Option, None, Result, Ok, Err, inl, refl}
use Rattle.std.proofs.KnownBytes.{Keeps-refl}
use Rattle.store_data.specs.declared.row.Product.{Product}
use Rattle.event_lines.specs.declared.log.EventLog.{EventLog}
use Rattle.text_io.specs.declared.stop.RunStop.{RunStop}
use Rattle.text_io.specs.declared.stop.RunStop.TheVariants.{Own, Stream}
use Rattle.text_io.specs.declared.stop.StreamFault.TheVariants as stream
use Rattle.job_facts.specs.declared.store.StoreFault.TheVariants as store
use Rattle.feeding.specs.Events.{FeedEndsWithEvents}
use Rattle.feeding.specs.Feeds.{Feed, at_first}
use Rattle.feeding.specs.Tries.{FeedEnds, Try}
use Rattle.feeding.specs.declared.engine.FeedFault.{FeedFault}
use Rattle.arguments.specs.Words.{UsesStreams}
use Rattle.arguments.specs.declared.words.FeedStart.{FeedStart}
use Rattle.arguments.specs.declared.words.Words.{Words}
use Rattle.arguments.specs.declared.words.Words.TheVariants as words
use Rattle.subcommands.specs.Runs.{FeedRuns, Feeds, PlanRuns, Plans, Runs}
use Rattle.subcommands.specs.declared.end.End.{End}
use Rattle.subcommands.specs.declared.end.End.TheVariants.{Memory}

module _ {E : Type 0} (contents : E → Option (List ℕ)) (old new : EventLog E) (known : Option (List ℕ)) (log_before log_after : Option (List Try)) (before after : Option (List ℕ)) where
  without_events : (first : List ℕ → Feed) (result : Result (Unit {0}) (RunStop FeedFault)) → FeedEndsWithEvents contents first known log_before log_after before after old new result
      → FeedEnds first known log_before log_after before after result
  without_events first (Ok done) (raw, agrees, hs, goes) = (raw, agrees, hs, goes.0)
  without_events first (Err (Own fault)) (raw, agrees, hs, goes) = (raw, agrees, hs, goes.0)
  without_events first (Err (Stream stream.ReadFailed)) (logged, kept, noted) = (logged, kept)
  without_events first (Err (Stream stream.WriteFailed)) (raw, agrees, hs, goes) = (raw, agrees, hs, goes.0)
  without_events first (Err (Stream stream.Memory)) (raw, agrees, hs, goes) = (raw, agrees, hs, goes.0)

  pub feeds_of : (start : FeedStart) (end : End) → FeedRuns contents start known log_before log_after before after old new end → Feeds start known log_before log_after before after end
  feeds_of start end (ended, is, ends) = (ended, is, without_events (at_first start.machine start.boot start.batch) ended ends)

pub plans_of : {E : Type 0} (contents : E → Option (List ℕ)) (p : Product) (known before after : Option (List ℕ)) (old new : EventLog E) (end : End)
    → PlanRuns contents p known before after old new end → Plans p known before after end
plans_of contents p known before after old new end (raw, agrees, ended, is, ends) = (raw, agrees, ended, is, ends.0)

-- If an allocation fails first, nothing is read or written.
pub memory_runs : {E : Type 0} (contents : E → Option (List ℕ)) (log : EventLog E) (w : Words) → UsesStreams w → Runs contents w None None None log log Memory
memory_runs contents log (words.Plan max low check) streams = ([], tt, Err (Stream stream.Memory), refl, (tt, Keeps-refl (contents log.writer)))
memory_runs contents log words.Drill streams = ((Err (Stream stream.Memory), refl, inl (store.Memory, refl, tt)), refl)
memory_runs contents log (words.Serve db port turns) streams = absurd streams
memory_runs contents log (words.Report db batch) streams = absurd streams
memory_runs contents log (words.Feed port start) streams = absurd streams
