-- Requests on facts that differ only in the order of their sets: the replies are equal, and the new
-- facts differ only in this order.
use Rattle.std.proofs.Common.{◌≡◌, ◌==◌, ◌+◌, ℕ, Bool, true, false, not, List, [], ◌∷◌, ◌++◌, length, Option, Some, None, Result, Ok, Err, refl, ap, subst, IsPermutation}
use Rattle.std.specs.Prelude.{bytes_eq, nat_le, slice_get, if◌then◌else◌}
use Rattle.std.proofs.lemmas.List.Sorted.{IsPermutation-append_left}
use Rattle.store_data.specs.declared.row.Product.{Product}
use Rattle.store_data.specs.declared.row.Row.{Row}
use Rattle.batch_import.specs.declared.fault.RowFault.{RowFault}
use Rattle.batch_import.specs.Batch.{batch_of, records_of_rows}
use Rattle.store_data.specs.Sequence.{Command}
use Rattle.job_facts.specs.declared.facts.Lot.{Lot}
use Rattle.job_facts.specs.declared.facts.RecordState.{RecordState}
use Rattle.job_facts.specs.declared.facts.RecordState.TheVariants as rec
use Rattle.job_facts.specs.declared.refusal.Refusal.{Refusal}
use Rattle.job_facts.specs.declared.reply.Made.TheVariants.{Known}
use Rattle.job_facts.specs.declared.reply.Reply.{Reply}
use Rattle.job_facts.specs.declared.reply.Reply.TheVariants as reply
use Rattle.job_facts.specs.declared.request.Request.{Request}
use Rattle.job_facts.specs.declared.request.Request.TheVariants as request
use Rattle.job_facts.specs.Contents.{AreSameFacts}
use Rattle.job_facts.specs.Facts.{Batch, Facts, Session, at_session, ended, new_session, worded, with_batch, with_close, with_discard, with_end, with_lot, with_product, with_remake, with_withdrawal}
use Rattle.job_facts.specs.Sound.{IsSound}
use Rattle.job_facts.specs.States.{any_overlaps, batch_named, command_bytes, first_waiting, goes_at, is_batch_finished, is_charged, is_closed, is_running, lot_named, lot_of, product_named, record_state_of, running_session, session_numbered, session_state}
use Rattle.job_facts.specs.Steps.{Outcome, by_option, in_batch, in_record, in_session, new_batch, new_lot, opened, refused, remade, same_batch, same_lot, same_product, step}
use Rattle.job_facts.specs.Steps.{step_answer, step_close, step_discard, step_import, step_lot, step_open, step_product, step_reset, take_word, taken_in, withdrawn}
use Rattle.step_laws.specs.Alike.{AreAlike}
use Rattle.step_laws.proofs.AlikeReads as reads

-- Two outcomes that depend on a look-up or a test are alike if the look-ups return the same and
-- both cases are alike.
by_alike : {A : Type 0} (o p : Option A) (x y : Outcome) (g h : A → Outcome) → o ≡ p → AreAlike x y → ((a : A) → AreAlike (g a) (h a)) → AreAlike (by_option o x g) (by_option p y h)
by_alike {A = A} o p x y g h same without having = subst (λ (q : Option A). AreAlike (by_option o x g) (by_option q y h)) same (at o)
  where
    at : (o : Option A) → AreAlike (by_option o x g) (by_option o y h)
    at None = without
    at (Some a) = having a

if_alike : (b c : Bool) (x y u v : Outcome) → b ≡ c → AreAlike x y → AreAlike u v → AreAlike (if b then x else u) (if c then y else v)
if_alike b c x y u v same hit miss = subst (λ t. AreAlike (if b then x else u) (if t then y else v)) same (at b)
  where
    at : (b : Bool) → AreAlike (if b then x else u) (if b then y else v)
    at true = hit
    at false = miss

facts_of : (f g : Facts) → IsPermutation f.products g.products → IsPermutation f.lots g.lots → f.batches ≡ g.batches → f.sessions ≡ g.sessions
    → IsPermutation f.discarded g.discarded → IsPermutation f.remakes g.remakes → IsPermutation f.withdrawn g.withdrawn → IsPermutation f.closed g.closed → AreSameFacts f g
facts_of f g products lots batches sessions discarded remakes withdrawn closed = record {
  products = products;
  lots = lots;
  batches = batches;
  sessions = sessions;
  discarded = discarded;
  remakes = remakes;
  withdrawn = withdrawn;
  closed = closed;
}

module _ (f g : Facts) (sound : IsSound f) (same : AreSameFacts f g) where
  stays : (p q : Reply) → p ≡ q → AreAlike (f, p) (g, q)
  stays p q is = record { reply = is; facts = same }

  refuses : (why : Refusal) → AreAlike (refused f why) (refused g why)
  refuses why = stays (reply.Refused why) (reply.Refused why) refl

  -- ---- products, lots and batches

  product_alike : (p : Product) → AreAlike (step_product f p) (step_product g p)
  product_alike p =
      let facts : AreSameFacts (with_product f p) (with_product g p) = facts_of (with_product f p) (with_product g p) (IsPermutation-append_left (p ∷ []) f.products g.products same.products) same.lots same.batches same.sessions same.discarded same.remakes same.withdrawn same.closed in
      by_alike (product_named f.products p.code) (product_named g.products p.code) _ _ _ _ (reads.products_alike f g sound same p.code)
      (if_alike (nat_le 256 (length f.products)) (nat_le 256 (length g.products)) _ _ _ _ (ap (nat_le 256) (reads.product_count_alike f g sound same)) (refuses _)
      (record { reply = refl; facts = facts }))
      (λ kept. if_alike (same_product kept p) (same_product kept p) _ _ _ _ refl (stays _ _ refl) (refuses _))

  new_lot_alike : (l : Lot) → AreAlike (new_lot f l) (new_lot g l)
  new_lot_alike l =
      let facts : AreSameFacts (with_lot f l) (with_lot g l) = facts_of (with_lot f l) (with_lot g l) same.products (IsPermutation-append_left (l ∷ []) f.lots g.lots same.lots) same.batches same.sessions same.discarded same.remakes same.withdrawn same.closed in
      by_alike (product_named f.products l.product) (product_named g.products l.product) _ _ _ _ (reads.products_alike f g sound same l.product) (refuses _) (λ p.
      if_alike (any_overlaps f.lots l.first l.count) (any_overlaps g.lots l.first l.count) _ _ _ _ (reads.overlaps_alike f g sound same l.first l.count) (refuses _)
      (if_alike (nat_le 4096 (length f.lots)) (nat_le 4096 (length g.lots)) _ _ _ _ (ap (nat_le 4096) (reads.lot_count_alike f g sound same)) (refuses _)
      (record { reply = refl; facts = facts })))

  lot_alike : (l : Lot) → AreAlike (step_lot f l) (step_lot g l)
  lot_alike l =
      by_alike (lot_named f.lots l.name) (lot_named g.lots l.name) _ _ _ _ (reads.lots_alike f g sound same l.name) (new_lot_alike l)
      (λ kept. if_alike (same_lot kept l) (same_lot kept l) _ _ _ _ refl (stays _ _ refl) (refuses _))

  taken_alike : (b p raw : List ℕ) (read : Result (List Row) RowFault) → AreAlike (taken_in f b p raw read) (taken_in g b p raw read)
  taken_alike b p raw (Ok rows) =
      let new : Batch = record { name = b; product = p; raw = raw } in
      record {
        reply = refl;
        facts =
            facts_of (with_batch f new) (with_batch g new) same.products same.lots (ap (λ bs. bs ++ new ∷ []) same.batches)
            same.sessions same.discarded same.remakes same.withdrawn same.closed;
      }
  taken_alike b p raw (Err fault) = stays _ _ refl

  new_batch_alike : (b p raw : List ℕ) → AreAlike (new_batch f b p raw) (new_batch g b p raw)
  new_batch_alike b p raw =
      by_alike (product_named f.products p) (product_named g.products p) _ _ _ _ (reads.products_alike f g sound same p) (refuses _) (λ kept.
      if_alike (nat_le 4096 (length f.batches)) (nat_le 4096 (length g.batches)) _ _ _ _ (ap (λ bs. nat_le 4096 (length bs)) same.batches) (refuses _)
      (taken_alike b p raw (batch_of kept raw)))

  import_alike : (b p raw : List ℕ) → AreAlike (step_import f b p raw) (step_import g b p raw)
  import_alike b p raw =
      by_alike (batch_named f.batches b) (batch_named g.batches b) _ _ _ _ (reads.batches_alike f g sound same b) (new_batch_alike b p raw)
      (λ kept. if_alike (same_batch kept p raw) (same_batch kept p raw) _ _ _ _ refl
      (stays _ _ (ap (λ rows. reply.Import b (length (records_of_rows rows)) Known (length rows)) (reads.rows_alike f g sound same kept))) (refuses _))

  batch_alike : (b : List ℕ) (act other : Batch → Outcome) → ((kept : Batch) → AreAlike (act kept) (other kept)) → AreAlike (in_batch f b act) (in_batch g b other)
  batch_alike b act other each =
      by_alike (batch_named f.batches b) (batch_named g.batches b) _ _ _ _ (reads.batches_alike f g sound same b) (refuses _) (λ kept.
      if_alike (is_closed f b) (is_closed g b) _ _ _ _ (reads.closed_alike f g sound same b) (refuses _) (each kept))

  -- ---- sessions

  sessions_with : (xs ys : List Session) → xs ≡ ys → AreSameFacts (record f { sessions = xs }) (record g { sessions = ys })
  sessions_with xs ys is = facts_of (record f { sessions = xs }) (record g { sessions = ys }) same.products same.lots same.batches (is) same.discarded same.remakes same.withdrawn same.closed

  opened_alike : (machine b : List ℕ) (blank : ℕ) (r : List ℕ) → AreAlike (opened f machine b blank r) (opened g machine b blank r)
  opened_alike machine b blank r = record {
    reply = λ i. reply.Opened b blank (reads.command_alike f g sound same b r 0 i) r (length (same.sessions i) + 1);
    facts = sessions_with _ _ (ap (λ xs. xs ++ new_session machine b r blank ∷ []) same.sessions);
  }

  open_alike : (machine b : List ℕ) (blank : ℕ) → AreAlike (step_open f machine b blank) (step_open g machine b blank)
  open_alike machine b blank = batch_alike b _ _ (λ kept.
      by_alike (running_session f machine) (running_session g machine) _ _ _ _ (reads.running_alike f g sound same machine)
      (by_alike (lot_of f.lots blank) (lot_of g.lots blank) _ _ _ _ (reads.lot_of_alike f g sound same blank) (refuses _) (λ l.
      if_alike (not (bytes_eq l.product kept.product)) (not (bytes_eq l.product kept.product)) _ _ _ _ refl (refuses _)
      (if_alike (is_charged f blank) (is_charged g blank) _ _ _ _ (reads.charged_alike f g sound same blank) (refuses _)
      (by_alike (first_waiting f b) (first_waiting g b) _ _ _ _ (reads.waiting_alike f g sound same b) (refuses _) (opened_alike machine b blank)))))
      (λ s. stays _ _ refl))

  session_alike : (client : List ℕ) (s : ℕ) (act other : Session → Outcome) → ((x : Session) → AreAlike (act x) (other x)) → AreAlike (in_session f client s act) (in_session g client s other)
  session_alike client s act other each =
      by_alike (session_numbered f.sessions s) (session_numbered g.sessions s) _ _ _ _ (reads.session_alike f g sound same s) (refuses _) (λ x.
      if_alike (not (bytes_eq x.machine client)) (not (bytes_eq x.machine client)) _ _ _ _ refl (refuses _)
      (if_alike (not (is_running (session_state f x))) (not (is_running (session_state g x))) _ _ _ _ (ap (λ state. not (is_running state)) (reads.state_alike f g sound same x))
      (refuses _) (each x)))

  -- the reply to a status word, from the commands of the session
  abbrev after_word : List Command → ℕ → ℕ → ℕ → Reply
  after_word commands s k sw =
      if goes_at commands k sw then (if k + 1 == length commands then reply.Good s else reply.Next (command_bytes (slice_get commands (k + 1))) (k + 1) s)
      else reply.Spoiled s

  word_alike : (s k sw : ℕ) (x : Session) → AreAlike (take_word f s k sw x) (take_word g s k sw x)
  word_alike s k sw x =
      record {
        reply = ap (λ commands. after_word commands s k sw) (reads.commands_alike f g sound same x.batch x.rec);
        facts = sessions_with _ _ (ap (at_session s (worded sw)) same.sessions);
      }

  ended_alike : (s : ℕ) (given : Reply) → AreAlike (with_end f s, given) (with_end g s, given)
  ended_alike s given = record { reply = refl; facts = sessions_with _ _ (ap (at_session s ended) same.sessions) }

  answer_alike : (client : List ℕ) (s k sw : ℕ) → AreAlike (step_answer f client s k sw) (step_answer g client s k sw)
  answer_alike client s k sw = session_alike client s _ _ (λ x.
      if_alike (k == length x.words) (k == length x.words) _ _ _ _ refl (word_alike s k sw x) (refuses _))

  reset_alike : (client : List ℕ) → AreAlike (step_reset f client) (step_reset g client)
  reset_alike client =
      by_alike (running_session f client) (running_session g client) _ _ _ _ (reads.running_alike f g sound same client) (stays _ _ refl)
      (λ s. ended_alike s (reply.Reset s))

  -- ---- blanks, records and batches

  discard_alike : (blank : ℕ) → AreAlike (step_discard f blank) (step_discard g blank)
  discard_alike blank =
      by_alike (lot_of f.lots blank) (lot_of g.lots blank) _ _ _ _ (reads.lot_of_alike f g sound same blank) (refuses _) (λ l.
      if_alike (is_charged f blank) (is_charged g blank) _ _ _ _ (reads.charged_alike f g sound same blank) (refuses _)
      (record { reply = refl; facts = facts_of (with_discard f blank) (with_discard g blank) same.products same.lots same.batches same.sessions (IsPermutation-append_left (blank ∷ []) f.discarded g.discarded same.discarded) same.remakes same.withdrawn same.closed }))

  record_alike : (b r : List ℕ) (act other : RecordState → Outcome) → ((state : RecordState) → AreAlike (act state) (other state)) → AreAlike (in_record f b r act) (in_record g b r other)
  record_alike b r act other each = batch_alike b _ _ (λ kept.
      by_alike (record_state_of f b r) (record_state_of g b r) _ _ _ _ (reads.stands_alike f g sound same b r) (refuses _) each)

  remade_alike : (b r : List ℕ) (state : RecordState) → AreAlike (remade f b r state) (remade g b r state)
  remade_alike b r rec.Failed =
      record {
        reply = refl;
        facts =
            facts_of (with_remake f b r) (with_remake g b r) same.products same.lots same.batches same.sessions same.discarded
            (IsPermutation-append_left (record { batch = b; rec = r } ∷ []) f.remakes g.remakes same.remakes) same.withdrawn same.closed;
      }
  remade_alike b r rec.Waiting = refuses _
  remade_alike b r rec.Running = refuses _
  remade_alike b r rec.Withdrawn = refuses _
  remade_alike b r rec.Good = refuses _

  more_withdrawn : (b r : List ℕ) → AreAlike (with_withdrawal f b r, reply.Withdrawn b r) (with_withdrawal g b r, reply.Withdrawn b r)
  more_withdrawn b r =
      record {
        reply = refl;
        facts =
            facts_of (with_withdrawal f b r) (with_withdrawal g b r) same.products same.lots same.batches same.sessions same.discarded same.remakes
            (IsPermutation-append_left (record { batch = b; rec = r } ∷ []) f.withdrawn g.withdrawn same.withdrawn) same.closed;
      }

  withdrawn_alike : (b r : List ℕ) (state : RecordState) → AreAlike (withdrawn f b r state) (withdrawn g b r state)
  withdrawn_alike b r rec.Waiting = more_withdrawn b r
  withdrawn_alike b r rec.Failed = more_withdrawn b r
  withdrawn_alike b r rec.Running = refuses _
  withdrawn_alike b r rec.Withdrawn = refuses _
  withdrawn_alike b r rec.Good = refuses _

  close_alike : (b : List ℕ) → AreAlike (step_close f b) (step_close g b)
  close_alike b = batch_alike b _ _ (λ kept.
      if_alike (is_batch_finished f b) (is_batch_finished g b) _ _ _ _ (reads.finished_alike f g sound same b)
      (record { reply = refl; facts = facts_of (with_close f b) (with_close g b) same.products same.lots same.batches same.sessions same.discarded same.remakes same.withdrawn (IsPermutation-append_left (b ∷ []) f.closed g.closed same.closed) }) (refuses _))

  -- ---- all requests

  pub step_alike : (client : List ℕ) (r : Request) → AreAlike (step f client r) (step g client r)
  unfolding step
  step_alike client (request.Product p) = product_alike p
  step_alike client (request.Lot l) = lot_alike l
  step_alike client (request.Import b p raw) = import_alike b p raw
  step_alike client (request.Open b blank) = open_alike client b blank
  step_alike client (request.Answer s k sw) = answer_alike client s k sw
  step_alike client (request.Abort s) = session_alike client s _ _ (λ x. ended_alike s (reply.Spoiled s))
  step_alike client request.Reset = reset_alike client
  step_alike client (request.Discard blank) = discard_alike blank
  step_alike client (request.Remake b r) = record_alike b r _ _ (remade_alike b r)
  step_alike client (request.Withdraw b r) = record_alike b r _ _ (withdrawn_alike b r)
  step_alike client (request.Close b) = close_alike b
