-- The image of the contents that audited rows determine has these rows.
use Rattle.std.proofs.Common.{◌≡◌, ℕ, Bool, true, false, not, cond, List, [], ◌++◌, get_or, map, filter, refl, sym, ap, ◌∙◌, subst, IsPermutation}
use Rattle.std.specs.List.{enumerate_from, flat_map, range_with_len}
use Rattle.std.proofs.lemmas.List.Elements.{All-weaker, All-filter, filter_passes}
use Rattle.std.proofs.lemmas.List.Folds.{flat_map-map}
use Rattle.std.proofs.lemmas.List.Sorted.{IsPermutation-append, IsPermutation-filter_both, IsPermutation-map, IsPermutation-refl, IsPermutation-trans}
use Rattle.std.proofs.lemmas.Simd.{map-map}
use Rattle.store_data.proofs.PieceLemmas.{sum_by-map}
use Rattle.job_facts.specs.Facts.{Batch, Facts, Session}
use Rattle.job_facts.specs.States.{is_in}
use Rattle.job_facts.specs.Accounts.{batch_totals, session_states, totals_by}
use Rattle.table_rows.specs.Tables.{HaveSameRows, StoredBatch, StoredBlank, StoredLot, StoredRecord, StoredRemake, StoredSession, Tables}
use Rattle.image_laws.specs.Image.{batch_by, batches_by_id, groupings_in, image, name_of, records_in, remakes_at, remakes_in, stored_batch, stored_batches, stored_blank, stored_blanks}
use Rattle.image_laws.specs.Image.{stored_groupings, stored_lot, stored_lots, stored_record, stored_records, stored_remakes, stored_session, stored_sessions, stored_words, words_in}
use Rattle.image_laws.proofs.Lists.{flat_map_same, unmoved}
use Rattle.image_laws.proofs.Places.{map_joined}
use Rattle.image_laws.proofs.Staying.{totals_are}
use Rattle.image_laws.specs.Decided.{batch_name, batch_of_row, contents_of, discarded_rows, facts_of}
use Rattle.audit_laws.specs.Audited.{IsAudited, IsAuditedBatch, IsAuditedBlank, IsAuditedLot, IsAuditedSession, file_groupings, file_keys, file_records, key_of, named_session, opened_rows, record_states_of, session_states_of, turns_of}
use Rattle.audit_laws.proofs.Agreeing.{BatchAgrees, RecordAgrees, RowsAgree, SessionAgrees}
use Rattle.audit_laws.proofs.ImageLists.{flat_joined, made_again}
use Rattle.audit_laws.proofs.SoundSessions.{sessions_are}

-- batch `b` with its id; `numbered_session` does this for a session
abbrev numbered_batch : StoredBatch → ℕ × Batch
numbered_batch b = (b.id, batch_of_row b)

abbrev numbered_session : Tables → StoredSession → ℕ × Session
numbered_session t s = (s.id, named_session t s)

-- a batch with only a name
abbrev under_name : List ℕ → Batch
under_name n = record { name = n; product = []; raw = [] }

module _ (t : Tables) (audited : IsAudited t) (rows_agree : RowsAgree t) where
  abbrev f : Facts
  f = facts_of t

  -- ---- lots

  lot_again : (l : StoredLot) → IsAuditedLot t l → stored_lot f l.lot ≡ l
  lot_again l counted =
      let made : ℕ → StoredLot = λ n. record { lot = l.lot; discarded = n } in
      ap made (sum_by-map (λ n. cond {A = ℕ} (is_in n l.lot) 1 0) (λ (b : StoredBlank). b.serial) (discarded_rows t.blanks) ∙ sym counted)

  lots_same : stored_lots f ≡ t.lots
  unfolding stored_lots
  lots_same =
      made_again (stored_lot f) (λ (l : StoredLot). l.lot) t.lots
      (All-weaker (IsAuditedLot t) (λ l. stored_lot f l.lot ≡ l) lot_again t.lots audited.each_lot)

  -- ---- batches

  batch_again : (b : StoredBatch) → BatchAgrees t b → IsAuditedBatch t b → stored_batch f (numbered_batch b) ≡ b
  batch_again b agrees counted =
      let e : ℕ × Batch = numbered_batch b in
      let rows : batch_by e b.closed (totals_by (record_states_of t b) (session_states_of t b)) ≡ b = λ i. record {
        id = b.id;
        name = b.name;
        product = b.product;
        raw = b.raw;
        closed = b.closed;
        waiting = sym counted.waiting i;
        running = sym counted.running i;
        failed = sym counted.failed i;
        withdrawn = sym counted.withdrawn i;
        good = sym counted.good i;
        sessions = sym counted.sessions i;
        spoiled = sym counted.spoiled i;
      } in
      ap (λ closed. batch_by e closed (batch_totals f b.name)) agrees.closed
      ∙ ap (batch_by e b.closed) (totals_are f b.name)
      ∙ ap (λ states. batch_by e b.closed (totals_by states (session_states f b.name))) agrees.its_records
      ∙ ap (λ states. batch_by e b.closed (totals_by (record_states_of t b) states)) agrees.its_sessions
      ∙ rows

  batches_same : stored_batches f ≡ t.batches
  unfolding stored_batches
  batches_same =
      ap (map (stored_batch f)) rows_agree.batches
      ∙ made_again (stored_batch f) numbered_batch t.batches
      (λ k d within. batch_again (get_or t.batches k d) (rows_agree.each_batch k d within) (audited.each_batch k d within))

  -- ---- the rows of each batch file and of each of its records, in file order

  of_files : {Y : Type 0} (rows : ℕ × Batch → List Y) (of_file : StoredBatch → List Y) → ((b : StoredBatch) → BatchAgrees t b → rows (numbered_batch b) ≡ of_file b)
      → flat_map rows (batches_by_id f) ≡ flat_map of_file t.batches
  of_files rows of_file same =
      ap (flat_map rows) rows_agree.batches ∙ flat_map-map rows numbered_batch t.batches
      ∙ flat_map_same (λ b. rows (numbered_batch b)) of_file t.batches
      (All-weaker (BatchAgrees t) (λ b. rows (numbered_batch b) ≡ of_file b) same t.batches rows_agree.each_batch)

  abbrev record_by : ℕ × (ℕ × List ℕ) → StoredRecord
  record_by key = stored_record f (key.0, under_name (batch_name t key.0)) key.1

  records_of_file : (b : StoredBatch) → BatchAgrees t b → records_in f (numbered_batch b) ≡ map record_by (file_keys t b)
  records_of_file b agrees =
      let file : List (ℕ × List ℕ) = enumerate_from 0 (file_records t b) in
      let keyed : ℕ × List ℕ → ℕ × (ℕ × List ℕ) = λ e. (b.id, e) in
      ap (λ n. map (stored_record f (b.id, under_name n)) file) (sym agrees.name) ∙ sym (map-map record_by keyed file)

  record_again : (r : StoredRecord) → RecordAgrees t r → record_by (key_of r) ≡ r
  record_again r agrees =
      λ i. record { batch = r.batch; place = r.place; name = r.name; state = agrees.state i; spoiled = agrees.spoiled i; remakes = agrees.remakes i }

  records_same : stored_records f ≡ t.records
  unfolding stored_records
  records_same =
      of_files (records_in f) (λ b. map record_by (file_keys t b)) records_of_file
      ∙ map_joined record_by (file_keys t) t.batches
      ∙ ap (map record_by) (sym audited.records)
      ∙ made_again record_by key_of t.records
      (All-weaker (RecordAgrees t) (λ r. record_by (key_of r) ≡ r) record_again t.records rows_agree.each_record)

  abbrev remakes_by : ℕ × (ℕ × List ℕ) → List StoredRemake
  remakes_by key = remakes_at f (key.0, under_name (batch_name t key.0)) key.1

  remakes_of_file : (b : StoredBatch) → BatchAgrees t b → remakes_in f (numbered_batch b) ≡ flat_map remakes_by (file_keys t b)
  remakes_of_file b agrees =
      let file : List (ℕ × List ℕ) = enumerate_from 0 (file_records t b) in
      let keyed : ℕ × List ℕ → ℕ × (ℕ × List ℕ) = λ e. (b.id, e) in
      ap (λ n. flat_map (remakes_at f (b.id, under_name n)) file) (sym agrees.name) ∙ sym (flat_map-map remakes_by keyed file)

  turns_again : (r : StoredRecord) → RecordAgrees t r → remakes_by (key_of r) ≡ turns_of r
  turns_again r agrees =
      ap (λ n. map (λ turn. let row : StoredRemake = record { batch = r.batch; place = r.place; turn = turn } in row)
      (range_with_len 1 n)) agrees.remakes

  remakes_same : stored_remakes f ≡ t.remakes
  unfolding stored_remakes
  remakes_same =
      of_files (remakes_in f) (λ b. flat_map remakes_by (file_keys t b)) remakes_of_file
      ∙ flat_joined remakes_by (file_keys t) t.batches
      ∙ ap (flat_map remakes_by) (sym audited.records)
      ∙ flat_map-map remakes_by key_of t.records
      ∙ flat_map_same (λ r. remakes_by (key_of r)) turns_of t.records
      (All-weaker (RecordAgrees t) (λ r. remakes_by (key_of r) ≡ turns_of r) turns_again t.records rows_agree.each_record)
      ∙ sym audited.remakes

  -- ---- groupings

  groupings_same : stored_groupings f ≡ t.groupings
  unfolding stored_groupings
  groupings_same = of_files (groupings_in f) (file_groupings t) (λ b agrees. refl) ∙ sym audited.groupings

  -- ---- sessions and words

  session_again : (s : StoredSession) → SessionAgrees t s → IsAuditedSession t s → stored_session f (numbered_session t s) ≡ s
  session_again s agrees is = λ i. record {
    id = s.id;
    machine = s.machine;
    batch = agrees.batch i;
    place = agrees.place i;
    serial = s.serial;
    state = agrees.state i;
    ended = s.ended;
    words = sym is.count i;
    cursor = agrees.cursor i;
  }

  sessions_same : stored_sessions f ≡ t.sessions
  unfolding stored_sessions
  sessions_same =
      ap (map (stored_session f)) rows_agree.sessions
      ∙ made_again (stored_session f) (numbered_session t) t.sessions
      (λ k d within. session_again (get_or t.sessions k d) (rows_agree.each_session k d within) (audited.each_session k d within))

  words_same : stored_words f ≡ t.words
  unfolding stored_words
  words_same = ap (flat_map words_in) rows_agree.sessions ∙ flat_map-map words_in (numbered_session t) t.sessions ∙ sym audited.words

  -- ---- blanks

  blank_again : (b : StoredBlank) → IsAuditedBlank t b → stored_blank f b.discarded b.serial ≡ b
  blank_again b is =
      let made : List ℕ → StoredBlank = λ n. record { serial = b.serial; lot = n; discarded = b.discarded } in
      ap made (ap name_of is.lot_is ∙ is.named)

  out_again : (b : StoredBlank) → IsAuditedBlank t b → b.discarded ≡ true → stored_blank f true b.serial ≡ b
  out_again b is out = ap (λ d. stored_blank f d b.serial) (sym out) ∙ blank_again b is

  opened_again : (b : StoredBlank) → IsAuditedBlank t b → not b.discarded ≡ true → stored_blank f false b.serial ≡ b
  opened_again b is opened = ap (λ d. stored_blank f d b.serial) (sym (in_use b.discarded opened)) ∙ blank_again b is
    where
      in_use : (d : Bool) → not d ≡ true → d ≡ false
      in_use true opened = sym opened
      in_use false opened = refl

  -- The rows that satisfy `p` are the rows built from their serials.
  blanks_again : (p : StoredBlank → Bool) (discarded : Bool)
      → ((b : StoredBlank) → IsAuditedBlank t b → p b ≡ true → stored_blank f discarded b.serial ≡ b)
      → map (stored_blank f discarded) (map (λ (b : StoredBlank). b.serial) (filter p t.blanks)) ≡ filter p t.blanks
  blanks_again p discarded again =
      made_again (stored_blank f discarded) (λ (b : StoredBlank). b.serial) (filter p t.blanks)
      (λ k d within. again (get_or (filter p t.blanks) k d) (All-filter p (IsAuditedBlank t) t.blanks audited.each_blank k d within)
      (filter_passes p t.blanks k d within))

  -- The rows built for the blanks of the sessions are the rows built from the serials in `session`.
  blanks_opened : map (λ (s : Session). stored_blank f false s.blank) f.sessions
      ≡ map (stored_blank f false) (map (λ (s : StoredSession). s.serial) t.sessions)
  blanks_opened =
      let opened : Session → StoredBlank = λ s. stored_blank f false s.blank in
      ap (map opened) (sessions_are t audited) ∙ map-map opened (named_session t) t.sessions
      ∙ sym (map-map (stored_blank f false) (λ (s : StoredSession). s.serial) t.sessions)

  blanks_same : IsPermutation t.blanks (stored_blanks f)
  unfolding stored_blanks
  blanks_same =
      let is_out : StoredBlank → Bool = λ b. b.discarded in
      let is_opened : StoredBlank → Bool = λ b. not b.discarded in
      let serial : StoredBlank → ℕ = λ b. b.serial in
      let of_sessions : List StoredBlank = map (λ (s : Session). stored_blank f false s.blank) f.sessions in
      let opened : IsPermutation (opened_rows t.blanks) of_sessions =
      subst (λ rows. IsPermutation rows of_sessions) (blanks_again is_opened false opened_again)
      (subst (IsPermutation (map (stored_blank f false) (map serial (opened_rows t.blanks)))) (sym blanks_opened)
      (IsPermutation-map (stored_blank f false) (map serial (opened_rows t.blanks))
      (map (λ (s : StoredSession). s.serial) t.sessions) audited.opened)) in
      IsPermutation-trans t.blanks (opened_rows t.blanks ++ discarded_rows t.blanks) (stored_blanks f)
      (IsPermutation-filter_both is_opened is_out (λ b. twice b.discarded) t.blanks)
      (IsPermutation-append (opened_rows t.blanks) of_sessions (discarded_rows t.blanks) (map (stored_blank f true) f.discarded) opened
      (unmoved (discarded_rows t.blanks) (map (stored_blank f true) f.discarded) (sym (blanks_again is_out true out_again))))
    where
      twice : (d : Bool) → d ≡ not (not d)
      twice true = refl
      twice false = refl

  -- ---- all tables

  pub audited_image : HaveSameRows t (image (contents_of t))
  audited_image = record {
    products = IsPermutation-refl t.products;
    lots = unmoved t.lots (stored_lots f) (sym lots_same);
    batches = unmoved t.batches (stored_batches f) (sym batches_same);
    records = unmoved t.records (stored_records f) (sym records_same);
    groupings = unmoved t.groupings (stored_groupings f) (sym groupings_same);
    sessions = unmoved t.sessions (stored_sessions f) (sym sessions_same);
    words = unmoved t.words (stored_words f) (sym words_same);
    blanks = blanks_same;
    remakes = unmoved t.remakes (stored_remakes f) (sym remakes_same);
    replies = IsPermutation-refl t.replies;
    marks = IsPermutation-refl t.marks;
  }
