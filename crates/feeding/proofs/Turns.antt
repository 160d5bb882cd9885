-- A try together with its output and its event lines.
use Rattle.std.proofs.Common.{◌≡◌, ◌≤◌, ◌<◌, ℕ, List, [], ◌∷◌, ◌++◌, Option, Some, Result, Ok, Err, refl, sym, ap, subst, ◌∙◌, append-nil, lit<}
use Rattle.std.specs.Prelude.{option_map, unwrap_or}
use Rattle.std.specs.Io.KnownBytes.{Appends}
use Rattle.std.proofs.KnownBytes.{Appends-nil, Keeps-refl}
use Rattle.event_lines.specs.declared.log.EventLog.{EventLog}
use Rattle.job_facts.specs.declared.reply.Reply.{Reply}
use Rattle.job_facts.specs.declared.request.Call.{Call}
use Rattle.text_io.specs.Stops.{stream_fault_of}
use Rattle.text_io.specs.declared.reading.ReadFault.{ReadFault}
use Rattle.text_io.specs.declared.reading.ReadFault.TheVariants.{Failed, Memory}
use Rattle.text_io.specs.declared.stop.RunStop.{RunStop}
use Rattle.text_io.specs.declared.stop.RunStop.TheVariants.{Own, Stream}
use Rattle.text_io.specs.declared.stop.StreamFault.TheVariants as stream
use Rattle.text_io.proofs.Limits.{agrees_some}
use Rattle.wire.specs.Sending.{sending_of}
use Rattle.feeder.specs.Table.{asked}
use Rattle.feeding.specs.declared.engine.FeedFault.{FeedFault}
use Rattle.feeding.specs.declared.engine.FeedFault.TheVariants as fault
use Rattle.feeding.specs.Feeds.{Feed, hears}
use Rattle.feeding.specs.Tries.{AreTries, EndsBy, Goes, Heard, IsEnd, IsHeard, IsPrinted, IsSent, IsSettled, IsTry, Logs, Try, feed_after, printed, try_of}
use Rattle.feeding.proofs.Going.{hears_few, left_of, less_left}
use Rattle.feeding.specs.declared.engine.Response.{Response}
use Rattle.feeding.specs.Events.{FeedEndsWithEvents, GoesWithEvents, IsNoted, IsNotedOf, end_texts, event_texts, lines_under}
use Rattle.feeding.specs.Views.{came_in}
use Rattle.feeding.proofs.Noting.{lost, noted_kept, noted_then}
use Rattle.feeding.proofs.Runs.{after_on, logs_more, text_begun, text_on, texts_on, tries_on}
use Rattle.feeding.proofs.Stands.{hears_settled}

-- the try that sends the request `call` under `number` and gets the response `r`
abbrev pub heard_of : List ℕ → ℕ → Call → Response → Heard
heard_of machine number call r = record { one = try_of (sending_of machine number call) r.came; reply = r.reply }

-- the pending request of the feed `f`, which is `call` under `number`, was sent as a message of
-- `machine`, and its response is `r`
pub record IsTried (f : Feed) (machine : List ℕ) (number : ℕ) (call : Call) (r : Response) (before after : Option (List Try)) : Type 0 where
  pub same : machine ≡ f.feeder.machine
  pub asks : asked f.feeder ≡ Some (number, call)
  pub few : f.tries < 10
  pub read : IsHeard (came_in r) r.reply
  pub logged : after ≡ option_map (λ l. l ++ try_of (sending_of machine number call) r.came ∷ []) before

is_try : (f : Feed) (machine : List ℕ) (number : ℕ) (call : Call) (r : Response) (before after : Option (List Try)) → IsTried f machine number call r before after → IsTry f (heard_of machine number call r)
is_try f machine number call r before after tried = record {
  sent = subst (λ o. IsSent f.feeder.machine o (sending_of machine number call)) (sym tried.asks) (ap (λ m. sending_of m number call) tried.same);
  read = tried.read;
  few = tried.few;
}

module _ {E : Type 0} (contents : E → Option (List ℕ)) where
  -- some tries led from the feed `first` to the feed `f`; their messages were exchanged, and their
  -- output and event lines were written
  abbrev pub SoFar : Feed → Feed → Option (List Try) → Option (List Try) → Option (List ℕ) → Option (List ℕ) → EventLog E → EventLog E → Type 0
  SoFar first f log_before log_after before after old new =
      (hs : List Heard) × AreTries first hs × (feed_after first hs ≡ f) × Logs log_before log_after hs × Appends before after (printed first hs) × IsNoted contents old new (event_texts first hs)

  pub goes_more : (first f g : Feed) (la lb lc : Option (List Try)) (a b c : Option (List ℕ)) (ea eb ec : EventLog E) (machine : List ℕ) (number : ℕ) (call : Call) (r : Response) → SoFar first f la lb a b ea eb
      → IsTried f machine number call r lb lc → IsPrinted (hears f r.reply) g b c (Ok tt) → IsNotedOf contents eb ec (lines_under f number (came_in r) r.reply) (Ok tt) → SoFar first g la lc a c ea ec
  goes_more first f g la lb lc a b c ea eb ec machine number call r (hs, all, at, logs, wrote, noted) tried (is, prints) more =
      let h = heard_of machine number call r in
      subst (λ x. SoFar first x la lc a c ea ec) (sym is) (
        hs ++ h ∷ [],
        tries_on first f hs h at all (is_try f machine number call r lb lc tried),
        after_on first f hs h at,
        logs_more la lb lc hs h logs tried.logged,
        text_on first f hs h a b c at wrote prints,
        subst (IsNoted contents ea ec) (sym (texts_on first f hs h number call at tried.asks)) (noted_then contents ea eb ec (event_texts first hs) (lines_under f number (came_in r) r.reply) noted more),
      )

  -- If the end of the feed has no event line, the lines of its tries are all of its lines.
  ended : (first : Feed) (hs : List Heard) (la lc : Option (List Try)) (a c : Option (List ℕ)) (ea ec : EventLog E) (r : Result (Unit {0}) (RunStop FeedFault)) → Goes first hs la lc a c r → end_texts (feed_after first hs) r ≡ []
      → IsNoted contents ea ec (event_texts first hs) → (hs : List Heard) × GoesWithEvents contents first hs la lc a c ea ec r
  ended first hs la lc a c ea ec r goes none noted =
      (hs, (goes, subst (IsNoted contents ea ec) (sym (append-nil (event_texts first hs)) ∙ sym (ap (λ texts. event_texts first hs ++ texts) none)) noted))

  -- The feed ends because the writer or an allocation failed.
  pub goes_end : (first f g : Feed) (la lb lc : Option (List Try)) (a b c : Option (List ℕ)) (ea eb ec : EventLog E) (machine : List ℕ) (number : ℕ) (call : Call) (r : Response) (why : RunStop FeedFault)
      (result : Result (Unit {0}) (RunStop FeedFault)) → SoFar first f la lb a b ea eb → IsTried f machine number call r lb lc → IsPrinted (hears f r.reply) g b c (Err why) → IsNotedOf contents eb ec (lines_under f number (came_in r) r.reply) (Err why) → result ≡ Err why
      → (hs : List Heard) × GoesWithEvents contents first hs la lc a c ea ec result
  goes_end first f g la lb lc a b c ea eb ec machine number call r (Stream stream.WriteFailed) result (hs, all, at, logs, wrote, noted) tried prints more is =
      let h = heard_of machine number call r in
      subst (λ x. (hs : List Heard) × GoesWithEvents contents first hs la lc a c ea ec x) (sym is) (ended first (hs ++ h ∷ []) la lc a c ea ec (Err (Stream stream.WriteFailed)) (
      record {
        tries = tries_on first f hs h at all (is_try f machine number call r lb lc tried);
        exchanged = logs_more la lb lc hs h logs tried.logged;
        ends = tt;
        written = text_begun first f hs h a b c at wrote prints;
      }) refl (subst (IsNoted contents ea ec) (sym (texts_on first f hs h number call at tried.asks)) (noted_then contents ea eb ec (event_texts first hs) (lines_under f number (came_in r) r.reply) noted more)))
  goes_end first f g la lb lc a b c ea eb ec machine number call r (Stream stream.Memory) result (hs, all, at, logs, wrote, noted) tried prints more is =
      subst (λ x. (hs : List Heard) × GoesWithEvents contents first hs la lc a c ea ec x) (sym is) (ended first hs la lc a c ea ec (Err (Stream stream.Memory)) (
      record { tries = all; exchanged = tt; ends = subst (λ x. x.tries < 10) (sym at) tried.few; written = subst (λ x. Appends a x (printed first hs)) (sym prints) wrote })
      refl (noted_kept contents ea eb ec (event_texts first hs) noted more))
  goes_end first f g la lb lc a b c ea eb ec machine number call r (Own own) result so_far tried prints more is = absurd prints
  goes_end first f g la lb lc a b c ea eb ec machine number call r (Stream stream.ReadFailed) result so_far tried prints more is = absurd prints

  -- The event lines of the end follow those of the tries.
  end_noted : (first f : Feed) (hs : List Heard) (ea eb ec : EventLog E) (r : Result (Unit {0}) (RunStop FeedFault)) → feed_after first hs ≡ f → IsNoted contents ea eb (event_texts first hs) → IsNoted contents eb ec (end_texts f r)
      → IsNoted contents ea ec (event_texts first hs ++ end_texts (feed_after first hs) r)
  end_noted first f hs ea eb ec r at noted more =
      subst (λ g. IsNoted contents ea ec (event_texts first hs ++ end_texts g r)) (sym at) (noted_then contents ea eb ec (event_texts first hs) (end_texts f r) noted more)

  pub goes_ended : (first f : Feed) (la lb : Option (List Try)) (a b : Option (List ℕ)) (ea eb ec : EventLog E) (r : Result (Unit {0}) (RunStop FeedFault)) → SoFar first f la lb a b ea eb → IsEnd f r → IsNoted contents eb ec (end_texts f r)
      → (hs : List Heard) × GoesWithEvents contents first hs la lb a b ea ec r
  goes_ended first f la lb a b ea eb ec (Ok u) (hs, all, at, logs, wrote, noted) is more =
      (hs, (record { tries = all; exchanged = logs; ends = subst (λ g. EndsBy g (Ok u)) (sym at) is; written = wrote }, end_noted first f hs ea eb ec (Ok u) at noted more))
  goes_ended first f la lb a b ea eb ec (Err (Own fault.BadLine)) (hs, all, at, logs, wrote, noted) is more =
      (hs, (record { tries = all; exchanged = logs; ends = subst (λ g. EndsBy g (Err (Own fault.BadLine))) (sym at) is; written = wrote }, end_noted first f hs ea eb ec (Err (Own fault.BadLine)) at noted more))
  goes_ended first f la lb a b ea eb ec (Err (Own fault.Stale)) (hs, all, at, logs, wrote, noted) is more =
      (hs, (record { tries = all; exchanged = logs; ends = subst (λ g. EndsBy g (Err (Own fault.Stale))) (sym at) is; written = wrote }, end_noted first f hs ea eb ec (Err (Own fault.Stale)) at noted more))
  goes_ended first f la lb a b ea eb ec _ so_far is more = absurd is

-- If an allocation fails before the first try, nothing was sent or printed.
pub no_memory : {E : Type 0} (contents : E → Option (List ℕ)) (f : Feed) (log : Option (List Try)) (a : Option (List ℕ)) (e : EventLog E) → f.tries ≡ 0
    → (hs : List Heard) × GoesWithEvents contents f hs log log a a e e (Err (Stream stream.Memory))
no_memory contents f log a e new =
    ([], (record { tries = tt; exchanged = tt; ends = subst (λ n. n < 10) (sym new) (lit< tt); written = Appends-nil a }, lost contents e e [] refl))

-- ---- the loop invariants

pub still_few : (f g : Feed) (b c : Option (List ℕ)) (reply : Option Reply) → f.tries < 10 → IsPrinted (hears f reply) g b c (Ok tt) → g.tries ≤ 10
still_few f g b c reply few prints = subst (λ x. x.tries ≤ 10) (sym prints.0) (hears_few f reply few)

pub still_settled : (f g : Feed) (b c : Option (List ℕ)) (reply : Option Reply) → IsSettled f → IsPrinted (hears f reply) g b c (Ok tt) → IsSettled g
still_settled f g b c reply is prints = subst IsSettled (sym prints.0) (hears_settled f reply is)

pub still_less : (most : ℕ) (f g : Feed) (b c : Option (List ℕ)) (number : ℕ) (call : Call) (reply : Option Reply) → asked f.feeder ≡ Some (number, call) → f.tries < 10 → number < most
    → IsPrinted (hears f reply) g b c (Ok tt) → left_of most g < left_of most f
still_less most f g b c number call reply asks few fits prints =
    subst (λ x. left_of most x < left_of most f) (sym prints.0) (less_left most f (number, call) reply asks few fits)

-- ---- lines that can't be read

pub no_lines : {E : Type 0} (contents : E → Option (List ℕ)) (first : List ℕ → Feed) (known : Option (List ℕ)) (log : Option (List Try)) (a : Option (List ℕ)) (e : EventLog E) (r : Result (Unit {0}) (RunStop FeedFault)) (why : RunStop FeedFault)
    (unread : ReadFault) → ((raw : List ℕ) → (first raw).tries ≡ 0) → r ≡ Err why → why ≡ Stream (stream_fault_of unread) → FeedEndsWithEvents contents first known log log a a e e r
no_lines contents first known log a e r why Failed new is of = rw (is, of) (refl, Keeps-refl a, lost contents e e [] refl)
no_lines contents first known log a e r why Memory new is of =
    let read = unwrap_or known [] in
    let ended = no_memory contents (first read) log a e (new read) in
    rw (is, of) (read, agrees_some known, ended.0, ended.1)
