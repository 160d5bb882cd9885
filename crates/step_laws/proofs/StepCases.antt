-- The outcomes of the reference model. A property of each outcome is true of every step.
use Rattle.std.proofs.Common.{◌≡◌, ◌<◌, ◌==◌, ℕ, Bool, true, false, not, cond, List, [], ◌∷◌, ◌++◌, length, Option, Some, None, Result, Ok, Err, ◌⊎◌, inl, inr, refl}
use Rattle.std.specs.Prelude.{bytes_eq, nat_le}
use Rattle.std.proofs.lemmas.Bool.{cond_both, eqb-true, false≢true, leb-false, not-false}
use Rattle.store_data.specs.declared.row.Product.{Product}
use Rattle.store_data.specs.declared.row.Row.{Row}
use Rattle.store_data.proofs.GroupLemmas.{same-bytes_eq}
use Rattle.batch_import.specs.declared.fault.RowFault.{RowFault}
use Rattle.batch_import.specs.Batch.{batch_of, records_of_rows}
use Rattle.job_facts.specs.declared.facts.Lot.{Lot}
use Rattle.job_facts.specs.declared.facts.RecordState.{RecordState}
use Rattle.job_facts.specs.declared.facts.RecordState.TheVariants as rec
use Rattle.job_facts.specs.declared.facts.SessionState.{SessionState}
use Rattle.job_facts.specs.declared.facts.SessionState.TheVariants as session
use Rattle.job_facts.specs.declared.refusal.Refusal.{Refusal}
use Rattle.job_facts.specs.declared.reply.Made.TheVariants.{Created, Known}
use Rattle.job_facts.specs.declared.reply.Reply.TheVariants as reply
use Rattle.job_facts.specs.declared.request.Request.{Request}
use Rattle.job_facts.specs.declared.request.Request.TheVariants as request
use Rattle.job_facts.specs.Facts.{Batch, Facts, Session, at_session, ended, worded, with_batch, with_close, with_discard, with_end, with_lot, with_product, with_remake, with_withdrawal, new_session, with_session, with_word}
use Rattle.job_facts.specs.States.{any_overlaps, batch_named, first_waiting, is_batch_finished, is_charged, is_closed, is_running, lot_named, lot_of, product_named, record_state_of, rows_of, running_session, session_numbered, session_state}
use Rattle.job_facts.proofs.SoundSessions.{running_numbered}
use Rattle.job_facts.specs.Steps.{Outcome, by_option, in_batch, in_session, known_batch, opened, remade, same_batch, same_lot, same_product, step, step_answer, step_discard, step_import, step_lot, step_open, step_product, step_reset, take_word, taken_in, withdrawn}

-- the batch `b` with its product and file
abbrev pub named_batch : List ℕ → List ℕ → List ℕ → Batch
named_batch b p raw = record { name = b; product = p; raw = raw }

-- An `open` request succeeds: the batch is open, the machine has no running session, and the blank
-- has the product of the batch and isn't charged.
pub record Opens (f : Facts) (client b : List ℕ) (blank : ℕ) (r : List ℕ) : Type 0 where
  pub batch : Batch
  pub there : batch_named f.batches b ≡ Some batch
  pub more : is_closed f b ≡ false
  pub idle : running_session f client ≡ None
  pub lot : Lot
  pub lot_is : lot_of f.lots blank ≡ Some lot
  pub same : lot.product ≡ batch.product
  pub free : is_charged f blank ≡ false
  pub waits : first_waiting f b ≡ Some r

-- `x` is session `s`, belongs to `client` and is running.
pub record IsOwn (f : Facts) (client : List ℕ) (s : ℕ) (x : Session) : Type 0 where
  pub there : session_numbered f.sessions s ≡ Some x
  pub own : x.machine ≡ client
  pub runs : session_state f x ≡ session.Running

-- `P` is true of each outcome that leaves the facts unchanged.
pub record LeavesFacts (f : Facts) (client : List ℕ) (P : Request → Outcome → Type 0) : Type 0 where
  pub refuses : (r : Request) (why : Refusal) → P r (f, reply.Refused why)
  pub faulty : (b p raw : List ℕ) (kept : Product) (fault : RowFault) → batch_of kept raw ≡ Err fault → P (request.Import b p raw) (f, reply.Faulty fault)
  pub product : (p kept : Product) → product_named f.products p.code ≡ Some kept → P (request.Product p) (f, reply.Product p.code Known)
  pub lot : (l kept : Lot) → lot_named f.lots l.name ≡ Some kept → P (request.Lot l) (f, reply.Lot l.name Known)
  pub batch : (b p raw : List ℕ) (kept : Batch) → batch_named f.batches b ≡ Some kept → P (request.Import b p raw) (known_batch f b (rows_of f.products kept))
  pub busy : (b : List ℕ) (blank s : ℕ) → running_session f client ≡ Some s → P (request.Open b blank) (f, reply.Busy s)
  pub idle : running_session f client ≡ None → P request.Reset (f, reply.Reset 0)

-- `P` is true of each outcome that adds a fact.
pub record Adds (f : Facts) (client : List ℕ) (P : Request → Outcome → Type 0) : Type 0 where
  pub product : (p : Product) → product_named f.products p.code ≡ None → length f.products < 256 → P (request.Product p) (with_product f p, reply.Product p.code Created)
  pub lot : (l : Lot) (p : Product) → lot_named f.lots l.name ≡ None → product_named f.products l.product ≡ Some p → any_overlaps f.lots l.first l.count ≡ false
      → length f.lots < 4096 → P (request.Lot l) (with_lot f l, reply.Lot l.name Created)
  pub batch : (b p raw : List ℕ) (kept : Product) (rows : List Row) → batch_named f.batches b ≡ None → product_named f.products p ≡ Some kept → length f.batches < 4096
      → batch_of kept raw ≡ Ok rows → P (request.Import b p raw) (with_batch f (named_batch b p raw), reply.Import b (length (records_of_rows rows)) Created (length rows))
  pub opens : (b : List ℕ) (blank : ℕ) (r : List ℕ) → Opens f client b blank r → P (request.Open b blank) (opened f client b blank r)
  pub word : (s k sw : ℕ) (x : Session) → IsOwn f client s x → k ≡ length x.words → P (request.Answer s k sw) (take_word f s k sw x)
  pub abort : (s : ℕ) (x : Session) → IsOwn f client s x → P (request.Abort s) (with_end f s, reply.Spoiled s)
  pub reset : (s : ℕ) → running_session f client ≡ Some s → P request.Reset (with_end f s, reply.Reset s)
  pub discard : (blank : ℕ) (l : Lot) → lot_of f.lots blank ≡ Some l → is_charged f blank ≡ false → P (request.Discard blank) (with_discard f blank, reply.Discarded blank)
  pub remake : (b r : List ℕ) → is_closed f b ≡ false → record_state_of f b r ≡ Some rec.Failed → P (request.Remake b r) (with_remake f b r, reply.Waiting b r)
  pub withdraw : (b r : List ℕ) (failed : Bool) → is_closed f b ≡ false → record_state_of f b r ≡ Some (cond failed rec.Failed rec.Waiting)
      → P (request.Withdraw b r) (with_withdrawal f b r, reply.Withdrawn b r)
  pub close : (b : List ℕ) (batch : Batch) → is_closed f b ≡ false → batch_named f.batches b ≡ Some batch → is_batch_finished f b ≡ true
      → P (request.Close b) (with_close f b, reply.Closed b)

-- ---- tests

option_both : {A : Type 0} (o : Option A) (x : Outcome) (g : A → Outcome) (Q : Outcome → Type 0) → (o ≡ None → Q x) → ((y : A) → o ≡ Some y → Q (g y)) → Q (by_option o x g)
option_both None x g Q without having = without refl
option_both (Some y) x g Q without having = having y refl

running_is : (state : SessionState) → is_running state ≡ true → state ≡ session.Running
running_is session.Running h = refl
running_is session.Good h = absurd (false≢true h)
running_is session.Spoiled h = absurd (false≢true h)

module _ (f : Facts) (client : List ℕ) (P : Request → Outcome → Type 0) (leaves : LeavesFacts f client P) (adds : Adds f client P) where
  product_by : (p : Product) → P (request.Product p) (step_product f p)
  product_by p =
      let Q : Outcome → Type 0 = P (request.Product p) in
      option_both (product_named f.products p.code) _ _ Q
      (λ new. cond_both {A = Outcome} (nat_le 256 (length f.products)) _ _ Q (λ yes. leaves.refuses _ _)
      (λ few. adds.product p new (leb-false 256 (length f.products) few)))
      (λ kept is. cond_both {A = Outcome} (same_product kept p) _ _ Q (λ yes. leaves.product p kept is) (λ no. leaves.refuses _ _))

  lot_by : (l : Lot) → P (request.Lot l) (step_lot f l)
  lot_by l =
      let Q : Outcome → Type 0 = P (request.Lot l) in
      option_both (lot_named f.lots l.name) _ _ Q
      (λ new. option_both (product_named f.products l.product) _ _ Q (λ none. leaves.refuses _ _) (λ p is.
      cond_both {A = Outcome} (any_overlaps f.lots l.first l.count) _ _ Q (λ yes. leaves.refuses _ _) (λ apart.
      cond_both {A = Outcome} (nat_le 4096 (length f.lots)) _ _ Q (λ yes. leaves.refuses _ _)
      (λ few. adds.lot l p new is apart (leb-false 4096 (length f.lots) few)))))
      (λ kept is. cond_both {A = Outcome} (same_lot kept l) _ _ Q (λ yes. leaves.lot l kept is) (λ no. leaves.refuses _ _))

  taken_by : (b p raw : List ℕ) (kept : Product) → batch_named f.batches b ≡ None → product_named f.products p ≡ Some kept → length f.batches < 4096
      → (read : Result (List Row) RowFault) → batch_of kept raw ≡ read → P (request.Import b p raw) (taken_in f b p raw read)
  taken_by b p raw kept new there few (Ok rows) is = adds.batch b p raw kept rows new there few is
  taken_by b p raw kept new there few (Err fault) is = leaves.faulty b p raw kept fault is

  import_by : (b p raw : List ℕ) → P (request.Import b p raw) (step_import f b p raw)
  import_by b p raw =
      let Q : Outcome → Type 0 = P (request.Import b p raw) in
      option_both (batch_named f.batches b) _ _ Q
      (λ new. option_both (product_named f.products p) _ _ Q (λ none. leaves.refuses _ _) (λ kept there.
      cond_both {A = Outcome} (nat_le 4096 (length f.batches)) _ _ Q (λ yes. leaves.refuses _ _) (λ few.
      taken_by b p raw kept new there (leb-false 4096 (length f.batches) few) (batch_of kept raw) refl)))
      (λ kept is. cond_both {A = Outcome} (same_batch kept p raw) _ _ Q (λ yes. leaves.batch b p raw kept is) (λ no. leaves.refuses _ _))

  batch_by : (r : Request) (b : List ℕ) (act : Batch → Outcome) → ((batch : Batch) → batch_named f.batches b ≡ Some batch → is_closed f b ≡ false → P r (act batch))
      → P r (in_batch f b act)
  batch_by r b act acts =
      option_both (batch_named f.batches b) _ _ (P r) (λ none. leaves.refuses _ _) (λ batch there.
      cond_both {A = Outcome} (is_closed f b) _ _ (P r) (λ yes. leaves.refuses _ _) (λ more. acts batch there more))

  open_by : (b : List ℕ) (blank : ℕ) → P (request.Open b blank) (step_open f client b blank)
  open_by b blank = batch_by (request.Open b blank) b _ (λ batch there more.
      let Q : Outcome → Type 0 = P (request.Open b blank) in
      option_both (running_session f client) _ _ Q
      (λ idle. option_both (lot_of f.lots blank) _ _ Q (λ none. leaves.refuses _ _) (λ l lot_is.
      cond_both {A = Outcome} (not (bytes_eq l.product batch.product)) _ _ Q (λ other. leaves.refuses _ _) (λ same.
      cond_both {A = Outcome} (is_charged f blank) _ _ Q (λ used. leaves.refuses _ _) (λ free.
      option_both (first_waiting f b) _ _ Q (λ none. leaves.refuses _ _) (λ r waits.
      adds.opens b blank r (record {
        batch = batch;
        there = there;
        more = more;
        idle = idle;
        lot = l;
        lot_is = lot_is;
        same = same-bytes_eq l.product batch.product (not-false (bytes_eq l.product batch.product) same);
        free = free;
        waits = waits;
      }))))))
      (λ s runs. leaves.busy b blank s runs))

  session_by : (r : Request) (s : ℕ) (act : Session → Outcome) → ((x : Session) → IsOwn f client s x → P r (act x)) → P r (in_session f client s act)
  session_by r s act acts =
      option_both (session_numbered f.sessions s) _ _ (P r) (λ none. leaves.refuses _ _) (λ x is.
      cond_both {A = Outcome} (not (bytes_eq x.machine client)) _ _ (P r) (λ other. leaves.refuses _ _) (λ own.
      cond_both {A = Outcome} (not (is_running (session_state f x))) _ _ (P r) (λ over. leaves.refuses _ _) (λ runs.
      acts x (record {
        there = is;
        own = same-bytes_eq x.machine client (not-false (bytes_eq x.machine client) own);
        runs = running_is (session_state f x) (not-false (is_running (session_state f x)) runs);
      }))))

  answer_by : (s k sw : ℕ) → P (request.Answer s k sw) (step_answer f client s k sw)
  answer_by s k sw = session_by (request.Answer s k sw) s _ (λ x own.
      cond_both {A = Outcome} (k == length x.words) _ _ (P (request.Answer s k sw)) (λ turn. adds.word s k sw x own (eqb-true k (length x.words) turn)) (λ no. leaves.refuses _ _))

  reset_by : P request.Reset (step_reset f client)
  reset_by = option_both (running_session f client) _ _ (P request.Reset) leaves.idle adds.reset

  discard_by : (blank : ℕ) → P (request.Discard blank) (step_discard f blank)
  discard_by blank =
      let Q : Outcome → Type 0 = P (request.Discard blank) in
      option_both (lot_of f.lots blank) _ _ Q (λ none. leaves.refuses _ _) (λ l is.
      cond_both {A = Outcome} (is_charged f blank) _ _ Q (λ used. leaves.refuses _ _) (λ free. adds.discard blank l is free))

  remade_by : (b r : List ℕ) → is_closed f b ≡ false → (state : RecordState) → record_state_of f b r ≡ Some state → P (request.Remake b r) (remade f b r state)
  remade_by b r more rec.Failed is = adds.remake b r more is
  remade_by b r more rec.Waiting is = leaves.refuses _ _
  remade_by b r more rec.Running is = leaves.refuses _ _
  remade_by b r more rec.Withdrawn is = leaves.refuses _ _
  remade_by b r more rec.Good is = leaves.refuses _ _

  withdrawn_by : (b r : List ℕ) → is_closed f b ≡ false → (state : RecordState) → record_state_of f b r ≡ Some state → P (request.Withdraw b r) (withdrawn f b r state)
  withdrawn_by b r more rec.Waiting is = adds.withdraw b r false more is
  withdrawn_by b r more rec.Failed is = adds.withdraw b r true more is
  withdrawn_by b r more rec.Running is = leaves.refuses _ _
  withdrawn_by b r more rec.Withdrawn is = leaves.refuses _ _
  withdrawn_by b r more rec.Good is = leaves.refuses _ _

  pub step_by : (r : Request) → P r (step f client r)
  unfolding step
  step_by (request.Product p) = product_by p
  step_by (request.Lot l) = lot_by l
  step_by (request.Import b p raw) = import_by b p raw
  step_by (request.Open b blank) = open_by b blank
  step_by (request.Answer s k sw) = answer_by s k sw
  step_by (request.Abort s) = session_by (request.Abort s) s _ (λ x own. adds.abort s x own)
  step_by request.Reset = reset_by
  step_by (request.Discard blank) = discard_by blank
  step_by (request.Remake b r) = batch_by (request.Remake b r) b _ (λ batch there more.
      option_both (record_state_of f b r) _ _ (P (request.Remake b r)) (λ none. leaves.refuses _ _) (remade_by b r more))
  step_by (request.Withdraw b r) = batch_by (request.Withdraw b r) b _ (λ batch there more.
      option_both (record_state_of f b r) _ _ (P (request.Withdraw b r)) (λ none. leaves.refuses _ _) (withdrawn_by b r more))
  step_by (request.Close b) = batch_by (request.Close b) b _ (λ batch there more.
      cond_both {A = Outcome} (is_batch_finished f b) _ _ (P (request.Close b)) (λ done. adds.close b batch more there done) (λ no. leaves.refuses _ _))

-- ---- properties of the facts only

-- `P` is true of the facts of each outcome.
pub record Changes (f : Facts) (client : List ℕ) (P : Request → Facts → Type 0) : Type 0 where
  pub stays : (r : Request) → P r f
  pub product : (p : Product) → product_named f.products p.code ≡ None → length f.products < 256 → P (request.Product p) (with_product f p)
  pub lot : (l : Lot) (p : Product) → lot_named f.lots l.name ≡ None → product_named f.products l.product ≡ Some p → any_overlaps f.lots l.first l.count ≡ false
      → length f.lots < 4096 → P (request.Lot l) (with_lot f l)
  pub batch : (b p raw : List ℕ) (kept : Product) (rows : List Row) → batch_named f.batches b ≡ None → product_named f.products p ≡ Some kept → length f.batches < 4096
      → batch_of kept raw ≡ Ok rows → P (request.Import b p raw) (with_batch f (named_batch b p raw))
  pub opens : (b : List ℕ) (blank : ℕ) (r : List ℕ) → Opens f client b blank r → P (request.Open b blank) (with_session f (new_session client b r blank))
  pub word : (s k sw : ℕ) (x : Session) → IsOwn f client s x → k ≡ length x.words → P (request.Answer s k sw) (with_word f s sw)
  pub ends : (r : Request) (s : ℕ) (x : Session) → IsOwn f client s x → (r ≡ request.Abort s) ⊎ (r ≡ request.Reset) → P r (with_end f s)
  pub discard : (blank : ℕ) (l : Lot) → lot_of f.lots blank ≡ Some l → is_charged f blank ≡ false → P (request.Discard blank) (with_discard f blank)
  pub remake : (b r : List ℕ) → is_closed f b ≡ false → record_state_of f b r ≡ Some rec.Failed → P (request.Remake b r) (with_remake f b r)
  pub withdraw : (b r : List ℕ) (failed : Bool) → is_closed f b ≡ false → record_state_of f b r ≡ Some (cond failed rec.Failed rec.Waiting) → P (request.Withdraw b r) (with_withdrawal f b r)
  pub close : (b : List ℕ) (batch : Batch) → is_closed f b ≡ false → batch_named f.batches b ≡ Some batch → is_batch_finished f b ≡ true → P (request.Close b) (with_close f b)

-- The running session of a machine belongs to this machine.
pub own_there : (f : Facts) (client : List ℕ) (s : ℕ) → running_session f client ≡ Some s → (x : Session) × IsOwn f client s x
own_there f client s runs =
    let x = running_numbered f client s runs in
    (x.0, record { there = x.1; own = x.2; runs = x.3 })

pub facts_by : (f : Facts) (client : List ℕ) (P : Request → Facts → Type 0) → Changes f client P → (r : Request) → P r (step f client r).0
facts_by f client P each =
    step_by f client (λ r o. P r o.0)
    (record {
      refuses = λ r why. each.stays r;
      faulty = λ b p raw kept fault is. each.stays _;
      product = λ p kept is. each.stays _;
      lot = λ l kept is. each.stays _;
      batch = λ b p raw kept is. each.stays _;
      busy = λ b blank s runs. each.stays _;
      idle = λ none. each.stays _;
    })
    (record {
      product = each.product;
      lot = each.lot;
      batch = each.batch;
      opens = each.opens;
      word = each.word;
      abort = λ s x own. each.ends (request.Abort s) s x own (inl refl);
      reset = λ s runs. let x = own_there f client s runs in each.ends request.Reset s x.0 x.1 (inr refl);
      discard = each.discard;
      remake = each.remake;
      withdraw = each.withdraw;
      close = each.close;
    })

-- ---- properties of the sessions only

pub record SessionChanges (f : Facts) (client : List ℕ) (P : Request → List Session → Type 0) : Type 0 where
  pub stays : (r : Request) → P r f.sessions
  pub opens : (b : List ℕ) (blank : ℕ) (r : List ℕ) → Opens f client b blank r → P (request.Open b blank) (f.sessions ++ new_session client b r blank ∷ [])
  pub word : (s k sw : ℕ) (x : Session) → IsOwn f client s x → k ≡ length x.words → P (request.Answer s k sw) (at_session s (worded sw) f.sessions)
  pub ends : (r : Request) (s : ℕ) (x : Session) → IsOwn f client s x → (r ≡ request.Abort s) ⊎ (r ≡ request.Reset) → P r (at_session s ended f.sessions)

pub sessions_by : (f : Facts) (client : List ℕ) (P : Request → List Session → Type 0) → SessionChanges f client P → (r : Request) → P r (step f client r).0.sessions
sessions_by f client P each =
    facts_by f client (λ r g. P r g.sessions)
    (record {
      stays = each.stays;
      product = λ p new few. each.stays _;
      lot = λ l p new there apart few. each.stays _;
      batch = λ b p raw kept rows new there few read. each.stays _;
      opens = each.opens;
      word = each.word;
      ends = each.ends;
      discard = λ blank l there free. each.stays _;
      remake = λ b r more failed. each.stays _;
      withdraw = λ b r failed more stands. each.stays _;
      close = λ b batch more there done. each.stays _;
    })
