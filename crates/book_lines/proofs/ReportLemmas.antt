-- Lemmas about the report of a batch: its counters agree with the rows of the batch, and it is the
-- report by the facts.
use Rattle.std.proofs.Common.{◌≡◌, ◌==◌, ◌&&◌, ◌+◌, ◌<◌, ℕ, Bool, true, List, [], ◌∷◌, ◌++◌, All, Contains, Option, Some, None, cond, get_or, length, map, refl, sym, take, ap, ◌∙◌, subst, arith}
use Rattle.std.specs.Prelude.{bytes_eq, filter, find, option_map}
use Rattle.std.specs.List.{list_any}
use Rattle.std.proofs.Math.Bool.{and_assoc, and_comm}
use Rattle.std.proofs.lemmas.List.{length-map, map_more}
use Rattle.std.proofs.lemmas.List.Elements.{All-contains, All-filter, All-weaker}
use Rattle.std.proofs.lemmas.List.Folds.{list_any_at}
use Rattle.std.proofs.lemmas.List.Sums.{sum_by-cons}
use Rattle.std.proofs.lemmas.Option.{get_or_from_slice_get, slice_get_within}
use Rattle.store_data.specs.declared.row.Product.{Product}
use Rattle.store_data.proofs.GroupLemmas.{bytes_eq-same, same-bytes_eq}
use Rattle.job_facts.specs.declared.facts.RecordState.{RecordState}
use Rattle.job_facts.specs.declared.facts.RecordState.TheVariants as rec
use Rattle.job_facts.specs.declared.rows.BatchRow.{BatchRow}
use Rattle.job_facts.specs.declared.rows.BatchTotals.{BatchTotals}
use Rattle.job_facts.specs.declared.rows.RecordLine.{RecordLine}
use Rattle.job_facts.specs.Accounts.{batch_totals, count_records, record_lines}
use Rattle.job_facts.specs.Contents.{AreSound, Contents}
use Rattle.job_facts.specs.Facts.{Facts}
use Rattle.job_facts.specs.Rows.{batch_row_of}
use Rattle.job_facts.specs.Sound.{IsBatch, IsName}
use Rattle.job_facts.specs.States.{batch_named, is_good, records_named, records_under, same_record_state}
use Rattle.job_facts.proofs.Lists.{find-All}
use Rattle.step_laws.proofs.Commands.{record_named}
use Rattle.table_rows.proofs.Found.{find_passes}
use Rattle.table_rows.specs.Keys.{is_batch_named, is_good_of, is_record_of}
use Rattle.table_rows.specs.Tables.{HaveSameRows, StoredBatch, StoredRecord, StoredSession, Tables, totals_of}
use Rattle.image_laws.specs.Decided.{batch_of_row as file_of, facts_of}
use Rattle.image_laws.specs.Image.{image, stored_batches, stored_records, stored_sessions}
use Rattle.row_laws.specs.RowValues.{batch_of_row, cards, line_of, lines_at, totals_in}
use Rattle.row_laws.proofs.BatchRows.{totals_in_rows}
use Rattle.row_laws.proofs.BatchValues.{row_in_rows}
use Rattle.row_laws.proofs.CardCounts.{cards_counted, spoiled_or_card}
use Rattle.row_laws.proofs.Finding.{find-filter, find-map, find_alike}
use Rattle.row_laws.proofs.LineRows.{lines_in_rows}
use Rattle.audit_laws.specs.Audited.{IsAudited, IsAuditedBatch, IsAuditedRecord, file_records, is_session_at, is_session_of, key_of, record_states_of, states_at}
use Rattle.audit_laws.proofs.ImageKeys.{batches_below, records_below, sessions_below}
use Rattle.audit_laws.proofs.InOrder.{in_order}
use Rattle.audit_laws.proofs.SoundNames.{IsPlaced, named_found, of_batch as of_file, records_placed}
use Rattle.audit_laws.proofs.SoundRecords.{contents_sound}
use Rattle.audit_order.proofs.Pieces.{filter-both}
use Rattle.audit_order.proofs.SameLists.{All-unmapped}
use Rattle.reports.specs.Report.{report_text, text_with}
use Rattle.book_lines.specs.Book.{IsBook}
use Rattle.book_lines.specs.Keyed.{AreKeyed}
use Rattle.book_lines.specs.Report.{batch_report, report_of}
use Rattle.book_lines.proofs.CardLemmas.{of_batch}

-- ---- totals

-- 1 if a record is in the state `state`, otherwise 0
abbrev one : RecordState → RecordState → ℕ
one state s = cond (same_record_state state s) 1 0

one_state : (s : RecordState) → one rec.Waiting s + one rec.Running s + one rec.Failed s + one rec.Withdrawn s + one rec.Good s ≡ 1
one_state rec.Waiting = refl
one_state rec.Running = refl
one_state rec.Failed = refl
one_state rec.Withdrawn = refl
one_state rec.Good = refl

each_state : (states : List RecordState)
    → length states ≡ count_records states rec.Waiting + count_records states rec.Running + count_records states rec.Failed + count_records states rec.Withdrawn + count_records states rec.Good
each_state [] = refl
each_state (s ∷ states) =
    let more : (state : RecordState) → count_records (s ∷ states) state ≡ one state s + count_records states state = λ state. sum_by-cons (one state) s states in
    omega (arith, each_state states, one_state s, more rec.Waiting, more rec.Running, more rec.Failed, more rec.Withdrawn, more rec.Good)

records_many : (t : Tables) (b : StoredBatch) → IsAuditedBatch t b → length (filter (is_record_of b.id) t.records) ≡ (totals_of b).records
records_many t b is =
    omega (
      arith,
      each_state (record_states_of t b),
      length-map (filter (is_record_of b.id) t.records) (λ (r : StoredRecord). r.state),
      is.waiting,
      is.running,
      is.failed,
      is.withdrawn,
      is.good,
    )

pub totals_are_of : (t : Tables) (b : StoredBatch) (records : ℕ) → IsAuditedBatch t b → records ≡ length (filter (is_record_of b.id) t.records)
    → record {
      records = records;
      waiting = b.waiting;
      running = b.running;
      failed = b.failed;
      withdrawn = b.withdrawn;
      good = b.good;
      sessions = b.sessions;
      spoiled = b.spoiled;
    } ≡ totals_of b
totals_are_of t b records is many =
    let all : records ≡ b.waiting + b.running + b.failed + b.withdrawn + b.good = many ∙ records_many t b is in
    λ i. record {
      records = all i;
      waiting = b.waiting;
      running = b.running;
      failed = b.failed;
      withdrawn = b.withdrawn;
      good = b.good;
      sessions = b.sessions;
      spoiled = b.spoiled;
    }

-- ---- the line of a record

module _ (t : Tables) (r : StoredRecord) (keyed : List (ℕ × StoredSession))
    (are : AreKeyed (λ (s : StoredSession). s.place) (filter (is_session_of r.batch) t.sessions) keyed) where
  abbrev pub own : List (ℕ × StoredSession)
  own = filter (λ (k : ℕ × StoredSession). k.0 == r.place) keyed

  abbrev under_place : StoredSession → ℕ × StoredSession
  under_place s = (s.place, s)

  own_is : own ≡ map under_place (filter (is_session_at r.batch r.place) t.sessions)
  own_is = are.found r.place ∙ ap (map under_place) (filter-both (λ (s : StoredSession). s.place == r.place) (is_session_of r.batch) t.sessions)

  -- the sessions of a record are its spoiled ones and, if the record is running or good, one more
  sessions_many : IsAuditedRecord t r → length own ≡ r.spoiled + cards r.state
  sessions_many is =
      let its : List StoredSession = filter (is_session_at r.batch r.place) t.sessions in
      let counted = cards_counted (states_at t r) _ r.remakes is.sound in
      let stands : cards r.state ≡ cards _ = ap cards is.state in
      omega (
        arith,
        ap length own_is,
        length-map its under_place,
        length-map its (λ (s : StoredSession). s.state),
        spoiled_or_card (states_at t r),
        counted,
        stands,
        is.spoiled,
      )

  abbrev pub is_good_one : ℕ × StoredSession → Bool
  is_good_one k = is_good k.1.state

  serials_same : (o : Option StoredSession) → option_map (λ (k : ℕ × StoredSession). k.1.serial) (option_map under_place o) ≡ option_map (λ (s : StoredSession). s.serial) o
  serials_same None = refl
  serials_same (Some s) = refl

  good_found : find is_good_one own ≡ option_map under_place (find (λ (s : StoredSession). s.place == r.place) (filter (is_good_of r.batch) t.sessions))
  good_found =
      let of : StoredSession → Bool = is_session_of r.batch in
      let at : StoredSession → Bool = λ s. s.place == r.place in
      let good : StoredSession → Bool = λ s. is_good s.state in
      let alike : (s : StoredSession) → ((of s && at s) && good s) ≡ ((of s && good s) && at s) =
      λ s. and_assoc (of s) (at s) (good s) ∙ ap (λ b. of s && b) (and_comm (at s) (good s)) ∙ sym (and_assoc (of s) (good s) (at s)) in
      ap (find is_good_one) own_is
      ∙ find-map is_good_one under_place (filter (is_session_at r.batch r.place) t.sessions)
      ∙ ap (option_map under_place)
      (find-filter good (is_session_at r.batch r.place) t.sessions
      ∙ find_alike (λ s. (of s && at s) && good s) (λ s. (of s && good s) && at s) t.sessions (λ k d within. alike (get_or t.sessions k d))
      ∙ sym (find-filter at (is_good_of r.batch) t.sessions))

  pub line_is : IsAuditedRecord t r → (name : List ℕ) (sessions : ℕ) (blank : Option ℕ) → name ≡ r.name → sessions ≡ length own
      → blank ≡ option_map (λ (k : ℕ × StoredSession). k.1.serial) (find is_good_one own)
      → record { rec = name; stands = r.state; sessions = sessions; blank = blank } ≡ line_of (filter (is_good_of r.batch) t.sessions) r
  line_is is name sessions blank named many serial =
      let its : sessions ≡ r.spoiled + cards r.state = many ∙ sessions_many is in
      let good : List StoredSession = filter (is_good_of r.batch) t.sessions in
      let card : blank ≡ option_map (λ (s : StoredSession). s.serial) (find (λ (s : StoredSession). s.place == r.place) good) =
      serial ∙ ap (option_map (λ (k : ℕ × StoredSession). k.1.serial)) good_found ∙ serials_same (find (λ (s : StoredSession). s.place == r.place) good) in
      λ i. record { rec = named i; stands = r.state; sessions = its i; blank = card i }

-- ---- names

module _ (t : Tables) (audited : IsAudited t) where
  abbrev file : StoredBatch → Type 0
  file b = IsBatch t.products (file_of b)

  batch_files : All file t.batches
  batch_files = All-unmapped file_of (IsBatch t.products) t.batches audited.batches.each

  pub batch_is_named : (b : StoredBatch) → Contains t.batches b → IsName b.name
  batch_is_named b there = (All-contains file t.batches b batch_files there).named

  pub product_is_named : (b : StoredBatch) → Contains t.batches b → IsName b.product
  product_is_named b there =
      let is = All-contains file t.batches b batch_files there in
      let named = find-All (λ (p : Product). bytes_eq p.code b.product) (λ (p : Product). IsName p.code) t.products is.product audited.products.named is.there in
      subst IsName (same-bytes_eq is.product.code b.product (find_passes (λ (p : Product). bytes_eq p.code b.product) t.products is.product is.there)) named

  record_is_named : (r : StoredRecord) → IsPlaced t (key_of r) → IsName r.name
  record_is_named r at =
      let f : Facts = facts_of t in
      let names : List (List ℕ) = file_records t at.batch in
      let there : batch_named f.batches at.batch.name ≡ Some (file_of at.batch) =
      of_file t audited (λ b. batch_named f.batches b.name ≡ Some (file_of b)) r.batch at.batch (named_found t audited) at.batch_is in
      let are : records_named f at.batch.name ≡ names = ap (records_under t.products) there in
      let hit : bytes_eq r.name (get_or names r.place r.name) ≡ true =
      ap (bytes_eq r.name) (get_or_from_slice_get names r.place r.name r.name at.name_is) ∙ bytes_eq-same r.name in
      let among : list_any (bytes_eq r.name) names ≡ true = list_any_at (bytes_eq r.name) names r.place r.name (slice_get_within names r.place r.name at.name_is) hit in
      record_named f at.batch.name r.name (contents_sound t audited).facts (ap (list_any (bytes_eq r.name)) are ∙ among)

  pub records_are_named : All (λ (r : StoredRecord). IsName r.name) t.records
  records_are_named = All-weaker (λ (r : StoredRecord). IsPlaced t (key_of r)) (λ (r : StoredRecord). IsName r.name) record_is_named t.records (records_placed t audited)

-- ---- the records of a batch, in order

module _ (t : Tables) (audited : IsAudited t) (id : ℕ) (records : List StoredRecord) (own : records ≡ filter (is_record_of id) t.records)
    (k : ℕ) (r : StoredRecord) (within : k < length records) (is : r ≡ get_or records k r) where
  -- a property of all records in the tables is true for `r`
  of_each : (P : StoredRecord → Type 0) → All P t.records → P r
  of_each P each = subst P (sym is) (subst (All P) (sym own) (All-filter (is_record_of id) P t.records each) k r within)

  pub own_named : IsName r.name
  own_named = of_each (λ x. IsName x.name) (records_are_named t audited)

  own_batch : r.batch ≡ id
  own_batch = subst (λ (x : StoredRecord). x.batch ≡ id) (sym is) (subst (All (λ (x : StoredRecord). x.batch ≡ id)) (sym own) (of_batch id t.records) k r within)

  -- adds the line of record `k` to the lines before it
  pub line_more : (keyed : List (ℕ × StoredSession)) → AreKeyed (λ (s : StoredSession). s.place) (filter (is_session_of id) t.sessions) keyed → (lines : List RecordLine) (line : RecordLine)
      → lines ≡ map (line_of (filter (is_good_of id) t.sessions)) (take k records)
      → (IsAuditedRecord t r → AreKeyed (λ (s : StoredSession). s.place) (filter (is_session_of r.batch) t.sessions) keyed → line ≡ line_of (filter (is_good_of r.batch) t.sessions) r)
      → lines ++ line ∷ [] ≡ map (line_of (filter (is_good_of id) t.sessions)) (take (k + 1) records)
  line_more keyed are lines line so_far this =
      let by_batch : ℕ → StoredRecord → RecordLine = λ n. line_of (filter (is_good_of n) t.sessions) in
      let keys : AreKeyed (λ (s : StoredSession). s.place) (filter (is_session_of r.batch) t.sessions) keyed =
      subst (λ n. AreKeyed (λ (s : StoredSession). s.place) (filter (is_session_of n) t.sessions) keyed) (sym own_batch) are in
      let here : line ≡ by_batch id (get_or records k r) =
      this (of_each (IsAuditedRecord t) audited.each_record) keys ∙ ap (λ n. by_batch n r) own_batch ∙ ap (by_batch id) is in
      ap (λ ls. ls ++ line ∷ []) so_far ∙ ap (λ l. map (by_batch id) (take k records) ++ l ∷ []) here ∙ sym (map_more (by_batch id) records k r within)

-- ---- facts

module _ (t : Tables) (c : Contents) (book : IsBook t) (sound : AreSound c) (same : HaveSameRows t (image c)) (n : List ℕ) where
  abbrev f : Facts
  f = c.facts

  batches_are : t.batches ≡ stored_batches f
  batches_are = in_order (λ (b : StoredBatch). b.id ∷ []) t.batches (stored_batches f) same.batches book.sorted.in_order.batches (batches_below f)

  records_are : t.records ≡ stored_records f
  records_are = in_order (λ (r : StoredRecord). r.batch ∷ r.place ∷ []) t.records (stored_records f) same.records book.sorted.in_order.records (records_below f)

  sessions_are : t.sessions ≡ stored_sessions f
  sessions_are = in_order (λ (s : StoredSession). s.id ∷ []) t.sessions (stored_sessions f) same.sessions book.sorted.in_order.sessions (sessions_below f)

  found_is : find (is_batch_named n) t.batches ≡ find (is_batch_named n) (stored_batches f)
  found_is = ap (find (is_batch_named n)) batches_are

  lines_are : record_lines f n ≡ lines_at t.records t.sessions (find (is_batch_named n) t.batches)
  lines_are =
      lines_in_rows f sound.facts n ∙ ap (lines_at (stored_records f) (stored_sessions f)) (sym found_is)
      ∙ ap (λ rs. lines_at rs (stored_sessions f) (find (is_batch_named n) t.batches)) (sym records_are)
      ∙ ap (λ ss. lines_at t.records ss (find (is_batch_named n) t.batches)) (sym sessions_are)

  totals_are : batch_totals f n ≡ totals_in (find (is_batch_named n) t.batches)
  totals_are = totals_in_rows f sound.facts n ∙ ap totals_in (sym found_is)

  row_is : batch_row_of f n ≡ option_map batch_of_row (find (is_batch_named n) t.batches)
  row_is = row_in_rows f n ∙ ap (option_map batch_of_row) (sym found_is)

  abbrev text_of : List RecordLine → BatchTotals → Option BatchRow → Option (List ℕ)
  text_of lines totals row = option_map (λ (r : BatchRow). text_with n r lines totals) row

  by_found : (o : Option StoredBatch) → find (is_batch_named n) t.batches ≡ o
      → option_map (batch_report t) o ≡ text_of (lines_at t.records t.sessions o) (totals_in o) (option_map batch_of_row o)
  unfolding batch_report
  by_found None is = refl
  by_found (Some b) is =
      let own : b.name ≡ n = same-bytes_eq b.name n (find_passes (is_batch_named n) t.batches b is) in
      ap (λ m. Some (text_with m (batch_of_row b) (lines_at t.records t.sessions (Some b)) (totals_of b))) own

  pub report_is : report_of t n ≡ report_text f n
  report_is =
      by_found (find (is_batch_named n) t.batches) refl
      ∙ sym ((λ i. text_of (lines_are i) (totals_are i) (row_is i)))
