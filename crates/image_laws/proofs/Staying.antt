-- The rows that don't change if batches, sessions and the states of records don't change.
use Rattle.std.proofs.Common.{◌≡◌, ℕ, Bool, List, All, map, Option, Some, None, refl, sym, ap, ◌∙◌, IsPermutation}
use Rattle.std.specs.Prelude.{bytes_eq, filter, length, option_and_then, unwrap_or}
use Rattle.std.specs.List.{enumerate_from, flat_map, list_any}
use Rattle.std.proofs.lemmas.List.Elements.{All-filter, All-weaker}
use Rattle.store_data.specs.Cursor.{cursor_at, select_cursor}
use Rattle.store_data.specs.Groups.{first_appearances}
use Rattle.store_data.specs.Sequence.{Plan, commands_of}
use Rattle.store_data.specs.declared.row.Product.{Product}
use Rattle.store_data.specs.declared.row.Row.{Row}
use Rattle.job_facts.specs.Accounts.{batch_totals, record_states, session_states, totals_by}
use Rattle.job_facts.specs.Contents.{Entry, Mark}
use Rattle.job_facts.specs.Facts.{Batch, Facts, Session}
use Rattle.job_facts.specs.Sound.{IsBatch, IsSession, IsSound}
use Rattle.job_facts.specs.States.{batch_named, going, is_closed, product_named, record_state, records_named, records_of, records_under, rows_of, rows_under, session_cursor, session_state}
use Rattle.job_facts.proofs.Lists.{find-All, map_same}
use Rattle.step_laws.specs.Later.{KnowsMore}
use Rattle.step_laws.specs.Records.{StandsSame}
use Rattle.step_laws.proofs.Kept.{plan_kept, product_kept, state_kept}
use Rattle.table_rows.specs.After.{new_grouping}
use Rattle.table_rows.specs.Tables.{HaveSameRows, StoredBatch, StoredBlank, StoredLot}
use Rattle.image_laws.specs.Image.{batch_by, batch_id, batches_by_id, groupings_in, image, place_in, placed_records, records_in, remakes_at, remakes_in, sessions_by_id, stored_batch, stored_batches}
use Rattle.image_laws.specs.Image.{stored_blanks, stored_groupings, stored_lots, stored_record, stored_records, stored_remakes, stored_session, stored_sessions, stored_words, words_in}
use Rattle.image_laws.proofs.Lists.{All-numbered, flat_map_same, unmoved}

-- ---- the parts of the counters

pub totals_are : (f : Facts) (b : List ℕ) → batch_totals f b ≡ totals_by (record_states f b) (session_states f b)
unfolding batch_totals
totals_are f b = refl

-- The row of a session is the same if all values from which it is built are the same.
pub session_alike : (f g : Facts) (e : ℕ × Session) → batch_id g.batches e.1.batch ≡ batch_id f.batches e.1.batch → records_named g e.1.batch ≡ records_named f e.1.batch
    → session_state g e.1 ≡ session_state f e.1 → session_cursor g e.1 ≡ session_cursor f e.1 → stored_session g e ≡ stored_session f e
session_alike f g e batch names state cursor = λ i. record {
  id = e.0;
  machine = e.1.machine;
  batch = batch i;
  place = place_in (names i) e.1.rec;
  serial = e.1.blank;
  state = state i;
  ended = e.1.ended;
  words = length e.1.words;
  cursor = cursor i;
}

-- ---- if sessions don't change, and everything known is still known

module _ (f g : Facts) (sound : IsSound f) (more : KnowsMore f g) where
  pub session_states_kept : g.sessions ≡ f.sessions → (n : List ℕ) → session_states g n ≡ session_states f n
  unfolding session_states
  session_states_kept sessions n =
      let of_batch : Session → Bool = λ s. bytes_eq s.batch n in
      ap (λ xs. map (session_state g) (filter of_batch xs)) sessions
      ∙ map_same (session_state g) (session_state f) (filter of_batch f.sessions)
      (All-filter of_batch (λ s. session_state g s ≡ session_state f s) f.sessions
      (All-weaker (IsSession f) (λ s. session_state g s ≡ session_state f s) (state_kept f g more sound) f.sessions sound.sessions.each))

  pub cursor_kept : (s : Session) → IsSession f s → session_cursor g s ≡ session_cursor f s
  unfolding session_cursor
  cursor_kept s is =
      ap (λ (o : Option Plan). unwrap_or (option_and_then (λ (plan : Plan). cursor_at plan (going (commands_of plan) s.words)) o) (select_cursor 0))
      (plan_kept f g more sound s.batch is.batch is.batch_is s.rec)

-- ---- if batches and the states of records don't change

pub record_kept : (f g : Facts) → ((b r : List ℕ) → StandsSame f g b r) → (e : ℕ × Batch) (r : ℕ × List ℕ) → stored_record g e r ≡ stored_record f e r
record_kept f g stands e r =
    let as_before = stands e.1.name r.1 in
    let states = as_before.states in
    let remakes = as_before.remakes in
    let state = as_before.stands in
    rw (states, remakes, state) refl

module _ (f g : Facts) (sound : IsSound f) (more : KnowsMore f g)
    (batches : g.batches ≡ f.batches) (stands : (b r : List ℕ) → StandsSame f g b r) where
  -- ---- one batch

  product_same : (b : Batch) → IsBatch f.products b → product_named g.products b.product ≡ product_named f.products b.product
  product_same b is = product_kept f g more b.product is.product is.there ∙ sym is.there

  rows_same : (b : Batch) → IsBatch f.products b → rows_of g.products b ≡ rows_of f.products b
  unfolding rows_of
  rows_same b is = ap (λ p. rows_under p b.raw) (product_same b is)

  records_same : (b : Batch) → IsBatch f.products b → records_of g.products b ≡ records_of f.products b
  unfolding records_of
  records_same b is = ap (λ rows. first_appearances (map (λ (row : Row). row.rec) rows)) (rows_same b is)

  records_under_same : (o : Option Batch) → ((b : Batch) → o ≡ Some b → IsBatch f.products b) → records_under g.products o ≡ records_under f.products o
  records_under_same None each = refl
  records_under_same (Some b) each = records_same b (each b refl)

  pub named_same : (n : List ℕ) → records_named g n ≡ records_named f n
  named_same n =
      ap (λ bs. records_under g.products (batch_named bs n)) batches
      ∙ records_under_same (batch_named f.batches n) (λ b there. find-All (λ (x : Batch). bytes_eq x.name n) (IsBatch f.products) f.batches b sound.named.batches.each there)

  record_states_same : (n : List ℕ) → record_states g n ≡ record_states f n
  unfolding record_states
  record_states_same n =
      ap (map (record_state g n)) (named_same n)
      ∙ map_same (record_state g n) (record_state f n) (records_named f n) (λ k d within. (stands n _).stands)

  -- The states of the sessions of each batch don't change.
  abbrev SessionsStand : Type 0
  SessionsStand = (n : List ℕ) → session_states g n ≡ session_states f n

  pub session_states_same : g.sessions ≡ f.sessions → SessionsStand
  session_states_same sessions n = session_states_kept f g sound more sessions n

  pub totals_same : SessionsStand → (n : List ℕ) → batch_totals g n ≡ batch_totals f n
  totals_same states n =
      totals_are g n ∙ ap (λ states. totals_by states (session_states g n)) (record_states_same n) ∙ ap (totals_by (record_states f n)) (states n) ∙ sym (totals_are f n)

  -- ---- the tables

  each_batch : All (λ (e : ℕ × Batch). IsBatch f.products e.1) (batches_by_id f)
  each_batch = All-numbered (IsBatch f.products) 1 f.batches sound.named.batches.each

  batch_same : SessionsStand → g.closed ≡ f.closed → (e : ℕ × Batch) → stored_batch g e ≡ stored_batch f e
  batch_same states closed e =
      ap (λ c. batch_by e (list_any (bytes_eq e.1.name) c) (batch_totals g e.1.name)) closed ∙ ap (batch_by e (is_closed f e.1.name)) (totals_same states e.1.name)

  pub batches_stay : SessionsStand → g.closed ≡ f.closed → stored_batches g ≡ stored_batches f
  unfolding stored_batches
  batches_stay states closed =
      ap (λ bs. map (stored_batch g) (enumerate_from 1 bs)) batches
      ∙ map_same (stored_batch g) (stored_batch f) (batches_by_id f)
      (λ k d within. batch_same states closed _)

  -- the rows of all batches, batch by batch
  of_batches_stay : {Y : Type 0} (rows : Facts → ℕ × Batch → List Y) → ((e : ℕ × Batch) → IsBatch f.products e.1 → rows g e ≡ rows f e)
      → flat_map (rows g) (batches_by_id g) ≡ flat_map (rows f) (batches_by_id f)
  of_batches_stay rows same =
      ap (λ bs. flat_map (rows g) (enumerate_from 1 bs)) batches
      ∙ flat_map_same (rows g) (rows f) (batches_by_id f)
      (All-weaker (λ (e : ℕ × Batch). IsBatch f.products e.1) (λ e. rows g e ≡ rows f e) same (batches_by_id f) each_batch)

  pub records_stay : stored_records g ≡ stored_records f
  unfolding stored_records
  records_stay =
      of_batches_stay records_in
      (λ e is. ap (λ names. map (stored_record g e) (enumerate_from 0 names)) (records_same e.1 is)
      ∙ map_same (stored_record g e) (stored_record f e) (placed_records f e) (λ k d within. record_kept f g stands e _))

  pub remakes_stay : stored_remakes g ≡ stored_remakes f
  unfolding stored_remakes
  remakes_stay =
      of_batches_stay remakes_in
      (λ e is. ap (λ names. flat_map (remakes_at g e) (enumerate_from 0 names)) (records_same e.1 is)
      ∙ flat_map_same (remakes_at g e) (remakes_at f e) (placed_records f e) (λ k d within. rw (stands e.1.name _).remakes refl))

  pub groupings_stay : stored_groupings g ≡ stored_groupings f
  unfolding stored_groupings
  groupings_stay = of_batches_stay groupings_in (λ e is i. map (new_grouping e.0 (records_same e.1 is i)) (enumerate_from 2 (rows_same e.1 is i)))

  session_same : (e : ℕ × Session) → IsSession f e.1 → stored_session g e ≡ stored_session f e
  session_same e is =
      session_alike f g e (ap (λ bs. batch_id bs e.1.batch) batches) (named_same e.1.batch) (state_kept f g more sound e.1 is) (cursor_kept f g sound more e.1 is)

  pub sessions_stay : g.sessions ≡ f.sessions → stored_sessions g ≡ stored_sessions f
  unfolding stored_sessions
  sessions_stay sessions =
      ap (λ xs. map (stored_session g) (enumerate_from 1 xs)) sessions
      ∙ map_same (stored_session g) (stored_session f) (sessions_by_id f)
      (All-weaker (λ (e : ℕ × Session). IsSession f e.1) (λ e. stored_session g e ≡ stored_session f e) session_same
      (sessions_by_id f) (All-numbered (IsSession f) 1 f.sessions sound.sessions.each))

  words_stay : g.sessions ≡ f.sessions → stored_words g ≡ stored_words f
  unfolding stored_words
  words_stay sessions = ap (λ xs. flat_map words_in (enumerate_from 1 xs)) sessions

  -- all tables, if the sessions don't change either. The rows of four tables may change
  pub rows_stay : g.sessions ≡ f.sessions → (kept : List Entry) (marks : List Mark) {ps : List Product} {ls : List StoredLot} {bs : List StoredBatch} {blanks : List StoredBlank}
      → IsPermutation g.products ps → IsPermutation (stored_lots g) ls → IsPermutation (stored_batches g) bs → IsPermutation (stored_blanks g) blanks
      → HaveSameRows (image (record { facts = g; kept = kept; marks = marks }))
      (record (image (record { facts = f; kept = kept; marks = marks })) { products = ps; lots = ls; batches = bs; blanks = blanks })
  rows_stay sessions kept marks products_now lots_now batches_now blanks_now = record {
    products = products_now;
    lots = lots_now;
    batches = batches_now;
    records = unmoved _ _ records_stay;
    groupings = unmoved _ _ groupings_stay;
    sessions = unmoved _ _ (sessions_stay sessions);
    words = unmoved _ _ (words_stay sessions);
    blanks = blanks_now;
    remakes = unmoved _ _ remakes_stay;
    replies = unmoved _ _ refl;
    marks = unmoved _ _ refl;
  }
