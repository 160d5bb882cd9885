-- The statements of each reply about its request and about the facts.
use Rattle.std.proofs.Common.{◌≡◌, ◌+◌, ◌==◌, ℕ, zero, suc, Bool, true, false, not, cond, List, [], ◌∷◌, ◌++◌, length, map, Option, Some, None, Ok, refl, sym, ap, ◌∙◌, subst, inl, inr, arith}
use Rattle.std.specs.Prelude.{bytes_eq, count_by, filter, find, is_some, nat_lt, slice_get}
use Rattle.std.specs.List.{list_any}
use Rattle.std.specs.Option.{option_or}
use Rattle.std.proofs.lemmas.Bool.{and_from, cond-true, cond_both, eq-eqb, false≢true, le-ltb, ne_eqb, or_right}
use Rattle.std.proofs.lemmas.List.{length_push}
use Rattle.std.proofs.lemmas.List.Folds.{find-append}
use Rattle.std.proofs.lemmas.List.Sums.{sum_by_push}
use Rattle.std.proofs.lemmas.Option.{cond_some, none-some}
use Rattle.store_data.specs.declared.row.Product.{Product}
use Rattle.store_data.specs.declared.row.Row.{Row}
use Rattle.store_data.proofs.GroupLemmas.{bytes_eq-same}
use Rattle.batch_import.specs.Batch.{batch_of, records_of_rows}
use Rattle.job_facts.specs.declared.facts.Lot.{Lot}
use Rattle.job_facts.specs.declared.facts.RecordState.{RecordState}
use Rattle.job_facts.specs.declared.facts.RecordState.TheVariants as rec
use Rattle.job_facts.specs.declared.facts.SessionState.{SessionState}
use Rattle.job_facts.specs.declared.facts.SessionState.TheVariants as session
use Rattle.job_facts.specs.declared.reply.Reply.{Reply}
use Rattle.job_facts.specs.declared.request.Request.{Request}
use Rattle.job_facts.specs.declared.request.Request.TheVariants as request
use Rattle.job_facts.specs.Facts.{Batch, Facts, Session, at_session, ended, new_session, with_end, with_remake, with_session, with_withdrawal, with_word, worded}
use Rattle.job_facts.specs.Sound.{IsRecord, IsSound, IsSoundRecord, has_card, runs_on}
use Rattle.job_facts.specs.States.{command_bytes, commands_for, first_waiting, goes_at, is_charged, is_record, is_running, is_spoiled, is_waiting, is_withdrawn, last_stops, product_named}
use Rattle.job_facts.specs.States.{record_state, record_state_of, records_named, remakes_of, rows_of, rows_or_none, rows_under, running_session, session_state, state_by, states_of}
use Rattle.job_facts.specs.Steps.{opened, step, take_word}
use Rattle.job_facts.proofs.Lists.{found_among, list_any-there}
use Rattle.job_facts.proofs.RecordLemmas.{open_parts, record_opened}
use Rattle.job_facts.proofs.RunningLemmas.{waiting_there, last_stops_push}
use Rattle.job_facts.proofs.SessionLemmas.{session_changed, session_split}
use Rattle.job_facts.proofs.SoundFacts.{is_for, states_are}
use Rattle.job_facts.proofs.SoundSessions.{running_numbered, running_parts}
use Rattle.step_laws.specs.Records.{record_by}
use Rattle.step_laws.specs.Replies.{IsGivenUp, IsSessionOf, MayGetReply, Says}
use Rattle.step_laws.proofs.Commands.{commands_some}
use Rattle.step_laws.proofs.GoodCards.{for_own, one_of_count}
use Rattle.step_laws.proofs.Kept.{commands_same, state_same}
use Rattle.step_laws.proofs.Numbered.{numbered_changed, numbered_top}
use Rattle.step_laws.proofs.RecordStands.{named, none_good, none_running, same_states, stands_by, states_around}
use Rattle.step_laws.proofs.StepCases.{IsOwn, named_batch, own_there, step_by}

-- ---- statements about the request

pub step_may : (f : Facts) (client : List ℕ) (r : Request) → MayGetReply r (step f client r).1
step_may f client r =
    step_by f client (λ r o. MayGetReply r o.1)
    (record {
      refuses = λ r why. tt;
      faulty = λ b p raw kept fault is. tt;
      product = λ p kept is. refl;
      lot = λ l kept is. refl;
      batch = λ b p raw kept is. refl;
      busy = λ b blank s runs. tt;
      idle = λ none. tt;
    })
    (record {
      product = λ p new few. refl;
      lot = λ l p new there apart few. refl;
      batch = λ b p raw kept rows new there few read. refl;
      opens = λ b blank r opens. (refl, refl);
      word = λ s k sw x own turn.
          let Q : Reply → Type 0 = MayGetReply (request.Answer s k sw) in
          let commands = commands_for f x.batch x.rec in
          cond_both {A = Reply} (goes_at commands k sw) _ _ Q
          (λ goes. cond_both {A = Reply} (k + 1 == length commands) _ _ Q (λ last. refl) (λ next. (refl, refl))) (λ stops. refl);
      abort = λ s x own. refl;
      reset = λ s runs. tt;
      discard = λ blank l there free. refl;
      remake = λ b r more failed. (refl, refl);
      withdraw = λ b r failed more stands. (refl, refl);
      close = λ b batch more there done. refl;
    }) r

-- ---- new facts are found

found_push : {X : Type 0} (q : X → Bool) (xs : List X) (x : X) → find q xs ≡ None → q x ≡ true → find q (xs ++ x ∷ []) ≡ Some x
found_push q xs x none hit = find-append q xs (x ∷ []) ∙ ap (λ o. option_or o (find q (x ∷ []))) none ∙ cond-true (q x) (Some x) None hit

rows_read : (f : Facts) (b p raw : List ℕ) (kept : Product) (rows : List Row) → product_named f.products p ≡ Some kept → batch_of kept raw ≡ Ok rows
    → rows ≡ rows_of f.products (named_batch b p raw)
unfolding rows_of
rows_read f b p raw kept rows there read = sym (ap (λ o. rows_under o raw) there ∙ ap rows_or_none read)

-- ---- a session that is opened

waiting_is : (t : RecordState) → is_waiting t ≡ true → t ≡ rec.Waiting
waiting_is rec.Waiting waits = refl
waiting_is _ waits = absurd (false≢true waits)

record_waits : (f : Facts) (b r : List ℕ) → first_waiting f b ≡ Some r → record_state f b r ≡ rec.Waiting
unfolding first_waiting
record_waits f b r waits = waiting_is (record_state f b r) (found_among (λ n. is_waiting (record_state f b n)) (records_named f b) r waits).0

module _ (f : Facts) (client b : List ℕ) (blank : ℕ) (r : List ℕ) (sound : IsSound f) (there : IsRecord f b r) (waits : record_state f b r ≡ rec.Waiting) where
  abbrev new : Session
  new = new_session client b r blank

  abbrev with_new : Facts
  with_new = with_session f new

  pub new_runs : session_state f new ≡ session.Running
  unfolding session_state
  new_runs =
      let some = commands_some f b r sound there in
      rw (ne_eqb 0 (length (commands_for f b r)) (λ e. omega (arith, some, e))) refl

  pub new_record : record_state with_new b r ≡ rec.Running
  unfolding record_state
  new_record =
      let states = states_of f b r in
      let w = is_withdrawn f b r in
      let m = remakes_of f b r in
      let now : states_of with_new b r ≡ states ++ session.Running ∷ [] =
      states_around f f.sessions [] new b r
      ∙ ap (λ ts. map (session_state f) (filter (is_for b r) f.sessions) ++ ts) (cond-true (is_for b r new) (session_state f new ∷ []) [] (for_own new) ∙ ap (λ t. t ∷ []) new_runs)
      ∙ ap (λ ts. ts ++ session.Running ∷ []) (sym (states_are f b r)) in
      ap (λ ts. state_by ts w m) now
      ∙ stands_by states [] session.Running w m (record_opened states session.Running w m (sound.states.records b r) waits)

  new_is : IsSessionOf with_new client (length f.sessions + 1) new session.Running
  new_is = record { there = numbered_top f.sessions new; own = refl; stands = state_same f (f.sessions ++ new ∷ []) new ∙ new_runs; rec = new_record }

  opened_says : is_charged f blank ≡ false → Says f with_new client (opened f client b blank r).1
  opened_says free = (
    sym (length_push f.sessions new),
    new_is,
    free,
    ap (λ cs. command_bytes (slice_get cs 0)) (sym (commands_same f (f.sessions ++ new ∷ []) b r)),
  )

-- ---- a session that changes

-- the record of the running session, after more status words or an end of this session
pub changed_record : (f : Facts) (before after : List Session) (x : Session) (words : List ℕ) (over : Bool) (t : SessionState) → IsSound f → f.sessions ≡ before ++ x ∷ after
    → session_state f x ≡ session.Running → session_state f (record x { words = words; ended = over }) ≡ t
    → record_state (record f { sessions = before ++ record x { words = words; ended = over } ∷ after }) x.batch x.rec ≡ record_by t
unfolding record_state
changed_record f before after x words over t sound split runs is =
    let b : List ℕ = x.batch in
    let r : List ℕ = x.rec in
    let w = is_withdrawn f b r in
    let m = remakes_of f b r in
    let y : Session = record x { words = words; ended = over } in
    let first : List SessionState = map (session_state f) (filter (is_for b r) before) in
    let rest : List SessionState = map (session_state f) (filter (is_for b r) after) in
    let was : states_of f b r ≡ first ++ session.Running ∷ rest =
    ap (λ xs. states_of (record f { sessions = xs }) b r) split ∙ states_around f before after x b r
    ∙ ap (λ ts. first ++ ts) (cond-true (is_for b r x) (session_state f x ∷ rest) rest (for_own x)) ∙ ap (λ u. first ++ u ∷ rest) runs in
    let now : states_of (record f { sessions = before ++ y ∷ after }) b r ≡ first ++ t ∷ rest =
    states_around f before after y b r ∙ ap (λ ts. first ++ ts) (cond-true (is_for b r y) (session_state f y ∷ rest) rest (for_own x)) ∙ ap (λ u. first ++ u ∷ rest) is in
    ap (λ ts. state_by ts w m) now ∙ stands_by first rest t w m (subst (λ ts. IsSoundRecord ts w m) was (sound.states.records b r))

module _ (f : Facts) (client : List ℕ) (s : ℕ) (x : Session) (sound : IsSound f) (own : IsOwn f client s x) where
  pub word_is : (sw : ℕ) (t : SessionState) → session_state f (worded sw x) ≡ t → IsSessionOf (with_word f s sw) client s (worded sw x) t
  word_is sw t is =
      let split = session_split f.sessions s x (worded sw) own.there in
      record {
        there = session_changed f.sessions s x (worded sw) own.there;
        own = own.own;
        stands = state_same f (at_session s (worded sw) f.sessions) (worded sw x) ∙ is;
        rec = ap (λ xs. record_state (record f { sessions = xs }) x.batch x.rec) split.3
            ∙ changed_record f split.0 split.1 x (x.words ++ sw ∷ []) x.ended t sound split.2 own.runs is;
      }

  ended_state : session_state f (ended x) ≡ session.Spoiled
  unfolding session_state
  ended_state = refl

  pub end_is : IsSessionOf (with_end f s) client s (ended x) session.Spoiled
  end_is =
      let split = session_split f.sessions s x ended own.there in
      record {
        there = session_changed f.sessions s x ended own.there;
        own = own.own;
        stands = state_same f (at_session s ended f.sessions) (ended x) ∙ ended_state;
        rec = ap (λ xs. record_state (record f { sessions = xs }) x.batch x.rec) split.3
            ∙ changed_record f split.0 split.1 x x.words true session.Spoiled sound split.2 own.runs ended_state;
      }

  -- The client has no other running session, and this one is no longer running.
  none_runs : running_session (with_end f s) client ≡ None
  none_runs = at (running_session (with_end f s) client) refl
    where
      spoiled_apart : session.Spoiled ≡ session.Running → ⊥
      spoiled_apart e = cc

      at : (o : Option ℕ) → running_session (with_end f s) client ≡ o → o ≡ None
      at None none = refl
      at (Some t) some =
          let y = running_numbered (with_end f s) client t some in
          absurd (elim (numbered_changed f.sessions s x ended t y.0 own.there y.1) [
            | inl hit ↦ spoiled_apart (sym end_is.stands ∙ ap (session_state (with_end f s)) (sym hit.1) ∙ y.3)
            | inr miss ↦
                let q : Session → Bool = runs_on f client in
                let runs : session_state f y.0 ≡ session.Running = sym (state_same f (at_session s ended f.sessions) y.0) ∙ y.3 in
                let hit_x : q x ≡ true = and_from (bytes_eq x.machine client) (is_running (session_state f x)) (ap (bytes_eq x.machine) (sym own.own) ∙ bytes_eq-same x.machine) (ap is_running own.runs) in
                let hit_y : q y.0 ≡ true = and_from (bytes_eq y.0.machine client) (is_running (session_state f y.0)) (ap (bytes_eq y.0.machine) (sym y.2) ∙ bytes_eq-same y.0.machine) (ap is_running runs) in
                miss.0 (one_of_count q f.sessions t s y.0 x (sound.sessions.machines client) miss.1 own.there hit_y hit_x)
          ])

-- ---- a status word

-- the state of a running session after a status word, from the tests
word_state : (f : Facts) (x : Session) (k sw : ℕ) (goes full : Bool) → session_state f x ≡ session.Running → k ≡ length x.words
    → goes_at (commands_for f x.batch x.rec) k sw ≡ goes → (k + 1 == length (commands_for f x.batch x.rec)) ≡ full
    → session_state f (worded sw x) ≡ cond goes (cond full session.Good session.Running) session.Spoiled
unfolding session_state
word_state f x k sw goes full runs turn on last =
    let commands = commands_for f x.batch x.rec in
    let place : 0 + length x.words ≡ k = omega (arith, turn) in
    let stops : last_stops commands (x.words ++ sw ∷ []) ≡ not goes = last_stops_push commands 0 x.words sw ∙ ap (λ n. not (goes_at commands n sw)) place ∙ ap not on in
    let more : length (x.words ++ sw ∷ []) ≡ k + 1 = length_push x.words sw ∙ ap (λ n. n + 1) (sym turn) in
    rw ((running_parts f x runs).2, stops, more, last) (turned goes (cond full session.Good session.Running))
  where
    turned : (goes : Bool) (t : SessionState) → cond (not goes) session.Spoiled t ≡ cond goes t session.Spoiled
    turned true t = refl
    turned false t = refl

word_says : (f : Facts) (client : List ℕ) (s k sw : ℕ) (x : Session) → IsSound f → IsOwn f client s x → k ≡ length x.words
    → Says f (take_word f s k sw x).0 client (take_word f s k sw x).1
word_says f client s k sw x sound own turn =
    let g : Facts = with_word f s sw in
    let Q : Reply → Type 0 = Says f g client in
    let commands = commands_for f x.batch x.rec in
    let state = word_state f x k sw in
    cond_both {A = Reply} (goes_at commands k sw) _ _ Q
    (λ goes. cond_both {A = Reply} (k + 1 == length commands) _ _ Q
    (λ last. (worded sw x, word_is f client s x sound own sw session.Good (state true true own.runs turn goes last)))
    (λ more. (
      worded sw x,
      word_is f client s x sound own sw session.Running (state true false own.runs turn goes more),
      length_push x.words sw ∙ ap (λ n. n + 1) (sym turn),
      ap (λ cs. command_bytes (slice_get cs (k + 1))) (sym (commands_same f g.sessions x.batch x.rec)),
    )))
    (λ stops. (worded sw x, word_is f client s x sound own sw session.Spoiled (state false (k + 1 == length commands) own.runs turn stops refl)))

-- ---- a record that is remade or withdrawn

-- the state of a record without a good or running session
cardless : (states : List SessionState) (withdrawn more : Bool) (remakes : ℕ) → list_any has_card states ≡ false → nat_lt remakes (count_by is_spoiled states) ≡ more
    → state_by states withdrawn remakes ≡ cond withdrawn rec.Withdrawn (cond more rec.Failed rec.Waiting)
cardless states withdrawn more remakes none last = rw (none_good states none, none_running states none, last) refl

-- A record that is waiting or failed has no good or running session.
open_record : (f : Facts) (b r : List ℕ) (failed : Bool) → record_state_of f b r ≡ Some (cond failed rec.Failed rec.Waiting)
    → (list_any (bytes_eq r) (records_named f b) ≡ true) × (list_any has_card (states_of f b r) ≡ false) × (is_withdrawn f b r ≡ false)
unfolding record_state_of record_state
open_record f b r failed stands =
    let given = cond_some (list_any (bytes_eq r) (records_named f b)) (record_state f b r) (cond failed rec.Failed rec.Waiting) stands in
    let parts = open_parts (states_of f b r) (is_withdrawn f b r) (remakes_of f b r) failed given.1 in
    (given.0, parts.0, parts.1)

there_record : (f : Facts) (b r : List ℕ) (state : RecordState) → list_any (bytes_eq r) (records_named f b) ≡ true → record_state f b r ≡ state → record_state_of f b r ≡ Some state
unfolding record_state_of
there_record f b r state there is = rw there (ap Some is)

own_record : (b r : List ℕ) → is_record b r (named b r) ≡ true
own_record b r = and_from (bytes_eq b b) (bytes_eq r r) (bytes_eq-same b) (bytes_eq-same r)

pub remade_says : (f : Facts) (b r : List ℕ) → IsSound f → record_state_of f b r ≡ Some rec.Failed → record_state_of (with_remake f b r) b r ≡ Some rec.Waiting
unfolding record_state
remade_says f b r sound failed =
    let g : Facts = with_remake f b r in
    let was = open_record f b r true failed in
    let states = states_of f b r in
    let more : remakes_of g b r ≡ remakes_of f b r + cond {A = ℕ} (is_record b r (named b r)) 1 0 = sum_by_push (λ n. cond {A = ℕ} (is_record b r n) 1 0) f.remakes (named b r) in
    let one : cond {A = ℕ} (is_record b r (named b r)) 1 0 ≡ 1 = ap (λ t. cond {A = ℕ} t 1 0) (own_record b r) in
    let least = (sound.states.records b r).remade_least in
    let enough : nat_lt (remakes_of g b r) (count_by is_spoiled states) ≡ false = le-ltb (remakes_of g b r) (count_by is_spoiled states) (omega (arith, more, one, least)) in
    there_record g b r rec.Waiting was.0
    (ap (λ ts. state_by ts (is_withdrawn f b r) (remakes_of g b r)) (same_states f f.discarded g.remakes f.withdrawn f.closed b r)
    ∙ cardless states (is_withdrawn f b r) false (remakes_of g b r) was.1 enough ∙ ap (λ w. cond w rec.Withdrawn rec.Waiting) was.2)

pub withdrawn_says : (f : Facts) (b r : List ℕ) (failed : Bool) → record_state_of f b r ≡ Some (cond failed rec.Failed rec.Waiting)
    → record_state_of (with_withdrawal f b r) b r ≡ Some rec.Withdrawn
unfolding record_state
withdrawn_says f b r failed stands =
    let g : Facts = with_withdrawal f b r in
    let was = open_record f b r failed stands in
    let states = states_of f b r in
    let gone : is_withdrawn g b r ≡ true = list_any-there (is_record b r) f.withdrawn [] (named b r) (own_record b r) in
    let more = nat_lt (remakes_of f b r) (count_by is_spoiled states) in
    there_record g b r rec.Withdrawn was.0
    (ap (λ ts. state_by ts (is_withdrawn g b r) (remakes_of f b r)) (same_states f f.discarded f.remakes g.withdrawn f.closed b r)
    ∙ cardless states (is_withdrawn g b r) more (remakes_of f b r) was.1 refl ∙ ap (λ w. cond w rec.Withdrawn (cond more rec.Failed rec.Waiting)) gone)

-- ---- all replies

given_up : (f g : Facts) (client : List ℕ) (s : ℕ) (x : Session) → IsSessionOf g client s x session.Spoiled → IsGivenUp f g client s
given_up f g client zero x is = absurd (none-some x is.there)
given_up f g client (suc s) x is = (x, is)

pub step_says : (f : Facts) (client : List ℕ) (r : Request) → IsSound f → Says f (step f client r).0 client (step f client r).1
step_says f client r sound =
    step_by f client (λ r o. Says f o.0 client o.1)
    (record {
      refuses = λ r why. refl;
      faulty = λ b p raw kept fault is. refl;
      product = λ p kept is. (ap is_some is, refl);
      lot = λ l kept is. (ap is_some is, refl);
      batch = λ b p raw kept is. (kept, is, refl, refl, refl);
      busy = λ b blank s runs. (runs, refl);
      idle = λ none. (none, refl);
    })
    (record {
      product = λ p new few. (ap is_some (found_push (λ (q : Product). bytes_eq q.code p.code) f.products p new (bytes_eq-same p.code)), tt);
      lot = λ l p new there apart few. (ap is_some (found_push (λ (m : Lot). bytes_eq m.name l.name) f.lots l new (bytes_eq-same l.name)), tt);
      batch = λ b p raw kept rows new there few read.
          let is = rows_read f b p raw kept rows there read in
          let found = found_push (λ (x : Batch). bytes_eq x.name b) f.batches (named_batch b p raw) new (bytes_eq-same b) in
          (named_batch b p raw, found, ap length is, ap (λ rows. length (records_of_rows rows)) is, tt);
      opens = λ b blank r is. opened_says f client b blank r sound (waiting_there f b r is.waits) (record_waits f b r is.waits) is.free;
      word = λ s k sw x own turn. word_says f client s k sw x sound own turn;
      abort = λ s x own. (ended x, end_is f client s x sound own);
      reset = λ s runs. let x = own_there f client s runs in (none_runs f client s x.0 sound x.1, given_up f (with_end f s) client s (ended x.0) (end_is f client s x.0 sound x.1));
      discard = λ blank l there free.
          or_right (list_any (λ (s : Session). s.blank == blank) f.sessions) _ (list_any-there (λ b. b == blank) f.discarded [] blank (eq-eqb blank blank refl));
      remake = λ b r more failed. remade_says f b r sound failed;
      withdraw = λ b r failed more stands. withdrawn_says f b r failed stands;
      close = λ b batch more there done. list_any-there (bytes_eq b) f.closed [] b (bytes_eq-same b);
    }) r
