-- The parts of the audit are equivalent to the whole.
use Rattle.std.proofs.Common.{◌≡◌, ℕ, ◌-◌, ◌<◌, true, false, List, [], ◌∷◌, length, get_or, map, All, Some, refl, sym, ap, ◌∙◌, subst, arith}
use Rattle.std.specs.Prelude.{◌==◌, filter, find, flat_map}
use Rattle.std.specs.List.{enumerate_from, position_or_len, range_with_len}
use Rattle.std.proofs.lemmas.Bool.Decides.{nat_tests}
use Rattle.std.proofs.lemmas.List.{length-map}
use Rattle.std.proofs.lemmas.List.Elements.{All-append, All-filter, All-head, All-map, All-nil, All-tail}
use Rattle.std.proofs.lemmas.List.Folds.{find_at}
use Rattle.std.proofs.lemmas.List.Sums.{passes_at_first}
use Rattle.std.proofs.lemmas.Option.{slice_get_within}
use Rattle.job_facts.specs.Facts.{Batch}
use Rattle.job_facts.specs.Sound.{AreApart, AreLots, AreNamedOnce, AreProducts, IsBatch}
use Rattle.table_rows.specs.After.{new_grouping}
use Rattle.table_rows.specs.Tables.{StoredBatch, StoredGrouping, StoredLot, StoredRecord, StoredSession, StoredWord, Tables}
use Rattle.image_laws.proofs.Lists.{flat_map_same}
use Rattle.image_laws.specs.Decided.{batch_of_row}
use Rattle.table_rows.specs.Keys.{is_batch, is_grouping_of, is_record_of}
use Rattle.audit_laws.specs.Audited.{IsAudited, IsAuditedRecord, IsAuditedSession, file_groupings, file_keys, file_records, file_rows, is_session_of, key_of}
use Rattle.audit_rows.specs.Audit.{AreFewOnce, AreOwned, IsIdOf}
use Rattle.audit_rows.specs.Rules.{AllHold, rules}
use Rattle.audit_rows.proofs.RuleLemmas.{AreReadyAfter}
use Rattle.row_laws.proofs.Finding.{AllPairs-from_map}
use Rattle.audit_order.specs.Order.{AreReady, AreSorted, lots_of}
use Rattle.audit_cards.specs.Sessions.{IsAuditedFile}
use Rattle.audit_order.proofs.IdLemmas.{id_at}
use Rattle.audit_order.proofs.OrderLemmas.{first_rising}
use Rattle.audit_order.proofs.Pieces.{All-passed, by_owner, filter-map, map-flat_map, own_piece}
use Rattle.audit_rows.proofs.NamedLemmas.{lots_in_range, named_once, once_named}
use Rattle.audit_order.proofs.SameLists.{All-unmapped}

some_batch : StoredBatch
some_batch = record { id = 0; name = []; product = []; raw = []; closed = false; waiting = 0; running = 0; failed = 0; withdrawn = 0; good = 0; sessions = 0; spoiled = 0 }

All-joined : {X B : Type 0} (P : X → Type 0) (f : B → List X) (bs : List B) → All (λ b. All P (f b)) bs → All P (flat_map f bs)
All-joined P f [] each = All-nil P
All-joined P f (b ∷ bs) each = All-append P (f b) (flat_map f bs) (All-head (λ c. All P (f c)) b bs each) (All-joined P f bs (All-tail (λ c. All P (f c)) b bs each))

names_are : (bs : List StoredBatch) → map (λ (b : StoredBatch). b.name) bs ≡ map (λ (b : Batch). b.name) (map batch_of_row bs)
names_are [] = refl
names_are (b ∷ bs) = ap (λ ns. b.name ∷ ns) (names_are bs)

module _ (t : Tables) (ids : map (λ (b : StoredBatch). b.id) t.batches ≡ range_with_len 1 (length t.batches)) where
  -- ---- ids

  id_found : (id : ℕ) (b : StoredBatch) → find (is_batch id) t.batches ≡ Some b → IsIdOf (length t.batches) id
  id_found id b found =
      let at : ℕ = position_or_len (is_batch id) t.batches in
      let within : at < length t.batches = slice_get_within t.batches at b (sym (find_at (is_batch id) t.batches) ∙ found) in
      let passes = passes_at_first (is_batch id) t.batches b within in
      let id_is = id_at t ids at b within in
      let same : (get_or t.batches at b).id ≡ id = grind (arith, nat_tests) in
      (omega arith, omega arith)

  own_ids : All (λ (b : StoredBatch). IsIdOf (length t.batches) b.id) t.batches
  own_ids = λ i d within. let id_is = id_at t ids i d within in (omega arith, omega arith)

  -- If every row has a batch, a property of the rows of each batch is a property of all rows.
  each_row : {X : Type 0} (n : X → ℕ) (P : X → Type 0) (xs : List X) → All (λ x. IsIdOf (length t.batches) (n x)) xs
      → All (λ (b : StoredBatch). All P (filter (λ x. n x == b.id) xs)) t.batches → All P xs
  each_row n P xs in_range each = λ k d within.
      let range = in_range k d within in
      let i : ℕ = n (get_or xs k d) - 1 in
      let here : i < length t.batches = omega arith in
      let id_is = id_at t ids i some_batch here in
      let same : (n (get_or xs k d) == (get_or t.batches i some_batch).id) ≡ true = grind (arith, nat_tests) in
      All-passed (λ x. n x == (get_or t.batches i some_batch).id) P xs (each i some_batch here) k d within same

  -- ---- pieces

  own_keys : (b : StoredBatch) → All (λ (k : ℕ × (ℕ × List ℕ)). k.0 ≡ b.id) (file_keys t b)
  own_keys b =
      All-map (λ (k : ℕ × (ℕ × List ℕ)). k.0 ≡ b.id) (λ (e : ℕ × List ℕ). let key : ℕ × (ℕ × List ℕ) = (b.id, e) in key) (enumerate_from 0 (file_records t b)) (λ k d within i. b.id)

  own_groupings : (b : StoredBatch) → All (λ (g : StoredGrouping). g.batch ≡ b.id) (file_groupings t b)
  own_groupings b = All-map (λ (g : StoredGrouping). g.batch ≡ b.id) (new_grouping b.id (file_records t b)) (enumerate_from 2 (file_rows t b)) (λ k d within i. b.id)

  ids_of : {X : Type 0} (n : X → ℕ) (f : StoredBatch → List X) → ((b : StoredBatch) → All (λ x. n x ≡ b.id) (f b)) → All (λ x. IsIdOf (length t.batches) (n x)) (flat_map f t.batches)
  ids_of n f own = All-joined (λ x. IsIdOf (length t.batches) (n x)) f t.batches
      (λ i d within k e inside. subst (IsIdOf (length t.batches)) (sym (own (get_or t.batches i d) k e inside)) (own_ids i d within))

-- ---- from the rules to the audit

module _ (t : Tables) (sorted : AreSorted t) (ids : map (λ (b : StoredBatch). b.id) t.batches ≡ range_with_len 1 (length t.batches))
    (owned : AreOwned (length t.batches) t.records t.groupings t.sessions) (files : All (IsAuditedFile t) t.batches) where
  records_are : map key_of t.records ≡ flat_map (file_keys t) t.batches
  records_are =
      ap (map key_of) (by_owner (λ (r : StoredRecord). r.batch) (λ (b : StoredBatch). b.id) t.batches t.records ids
      (first_rising (λ (r : StoredRecord). r.batch) (λ (r : StoredRecord). r.place ∷ []) t.records sorted.in_order.records) owned.records_are)
      ∙ map-flat_map key_of (λ (b : StoredBatch). filter (is_record_of b.id) t.records) t.batches
      ∙ flat_map_same (λ (b : StoredBatch). map key_of (filter (is_record_of b.id) t.records)) (file_keys t) t.batches (λ i d within. (files i d within).records)

  groupings_are : t.groupings ≡ flat_map (file_groupings t) t.batches
  groupings_are =
      by_owner (λ (g : StoredGrouping). g.batch) (λ (b : StoredBatch). b.id) t.batches t.groupings ids
      (first_rising (λ (g : StoredGrouping). g.batch) (λ (g : StoredGrouping). g.line ∷ []) t.groupings sorted.in_order.groupings) owned.groupings_are
      ∙ flat_map_same (λ (b : StoredBatch). filter (is_grouping_of b.id) t.groupings) (file_groupings t) t.batches (λ i d within. (files i d within).groupings)

-- Sorted rows that obey all rules pass the audit.
pub rows_pass : (t : Tables) → AreSorted t → AllHold rules t → IsAudited t
rows_pass t sorted (products, (lots, (batches, (ids, (session_ids, (owned, (files, (words, (remakes, (machines, (counters, (once, (blanks, (opened, (marks, (kept, (marked_once, (above, (kept_once, end))))))))))))))))))) =
    record {
      products = products;
      lots = lots;
      batches = record {
        few = omega (arith, batches.0, length-map t.batches batch_of_row);
        once = subst AreNamedOnce (names_are t.batches) (named_once (λ (b : StoredBatch). b.name) t.batches batches.1);
        each = All-map (IsBatch t.products) batch_of_row t.batches (λ i d within. (files i d within).batch);
      };
      batch_ids = ids;
      records = records_are t sorted ids owned files;
      groupings = groupings_are t sorted ids owned files;
      session_ids = session_ids;
      words = words;
      each_session = each_row t ids (λ (s : StoredSession). s.batch) (IsAuditedSession t) t.sessions owned.sessions_are (λ i d within. (files i d within).each_session);
      machines = machines;
      each_record = each_row t ids (λ (r : StoredRecord). r.batch) (IsAuditedRecord t) t.records owned.records_are (λ i d within. (files i d within).each_record);
      remakes = remakes;
      each_batch = λ i d within. (files i d within).counts;
      each_lot = counters;
      blanks_once = once;
      each_blank = blanks;
      opened = opened;
      marks = marks;
      kept = kept;
      marked_once = marked_once;
      above = above;
      kept_once = kept_once;
    }

-- ---- preconditions that follow from the first rules

module _ (t : Tables) (sorted : AreSorted t) where
  pub ready_of : AreProducts t.products → AreLots t.products (lots_of t.lots) → map (λ (b : StoredBatch). b.id) t.batches ≡ range_with_len 1 (length t.batches) → AreReady t
  ready_of products are ids =
      let lots = lots_in_range t.products t.lots are in
      record {
        records = first_rising (λ (r : StoredRecord). r.batch) (λ (r : StoredRecord). r.place ∷ []) t.records sorted.in_order.records;
        groupings = first_rising (λ (g : StoredGrouping). g.batch) (λ (g : StoredGrouping). g.line ∷ []) t.groupings sorted.in_order.groupings;
        words = first_rising (λ (w : StoredWord). w.session) (λ (w : StoredWord). w.place ∷ []) t.words sorted.in_order.words;
        products = products;
        lots = record {
          rising = sorted.lots;
          some = λ k d within. (lots k d within).least;
          range = λ k d within. (lots k d within).range;
          apart = AllPairs-from_map AreApart (λ (l : StoredLot). l.lot) t.lots are.apart;
        };
        batch_ids = ids;
      }

  pub each_ready : AreReadyAfter t [] rules
  each_ready = (
    λ h. tt,
    (
      λ h. h.0,
      (
        λ h. tt,
        (
          λ h. tt,
          (
            λ h. tt,
            (
              λ h. tt,
              (
                λ h. ready_of h.0 h.1.0 h.1.1.1.0,
                (
                  λ h. ready_of h.0 h.1.0 h.1.1.1.0,
                  (
                    λ h. tt,
                    (
                      λ h. tt,
                      (
                        λ h. ready_of h.0 h.1.0 h.1.1.1.0,
                        (
                          λ h. sorted.blanks,
                          (
                            λ h. ready_of h.0 h.1.0 h.1.1.1.0,
                            (
                              λ h. tt,
                              (λ h. tt, (λ h. tt, (λ h. tt, (λ h. h.1.1.1.1.1.1.1.1.1.1.1.1.1.1.1.1.0, (λ h. tt, tt))))),
                            ),
                          ),
                        ),
                      ),
                    ),
                  ),
                ),
              ),
            ),
          ),
        ),
      ),
    ),
  )

-- ---- from the audit to the rules

module _ (t : Tables) (a : IsAudited t) where
  owners_of : AreOwned (length t.batches) t.records t.groupings t.sessions
  owners_of = record {
    records_are = All-unmapped key_of (λ (k : ℕ × (ℕ × List ℕ)). IsIdOf (length t.batches) k.0) t.records
        (subst (All (λ (k : ℕ × (ℕ × List ℕ)). IsIdOf (length t.batches) k.0)) (sym a.records) (ids_of t a.batch_ids (λ (k : ℕ × (ℕ × List ℕ)). k.0) (file_keys t) (own_keys t a.batch_ids)));
    groupings_are = subst (All (λ (g : StoredGrouping). IsIdOf (length t.batches) g.batch)) (sym a.groupings)
        (ids_of t a.batch_ids (λ (g : StoredGrouping). g.batch) (file_groupings t) (own_groupings t a.batch_ids));
    sessions_are = λ k d within. let s = a.each_session k d within in id_found t a.batch_ids (get_or t.sessions k d).batch s.batch s.batch_is;
  }

  few_of : AreFewOnce t.batches
  few_of = (omega (arith, a.batches.few, length-map t.batches batch_of_row), once_named (λ (b : StoredBatch). b.name) t.batches (subst AreNamedOnce (sym (names_are t.batches)) a.batches.once))

  files_of : All (IsAuditedFile t) t.batches
  files_of = λ i d within.
      let b : StoredBatch = get_or t.batches i d in
      record {
        batch = All-unmapped batch_of_row (IsBatch t.products) t.batches a.batches.each i d within;
        records =
            sym (filter-map (λ (k : ℕ × (ℕ × List ℕ)). k.0 == b.id) key_of t.records) ∙ ap (filter (λ (k : ℕ × (ℕ × List ℕ)). k.0 == b.id)) a.records
            ∙ own_piece (λ (k : ℕ × (ℕ × List ℕ)). k.0) (λ (x : StoredBatch). x.id) (file_keys t) t.batches (own_keys t a.batch_ids) (length t.batches) 1 a.batch_ids i d within;
        groupings =
            ap (filter (is_grouping_of b.id)) a.groupings
            ∙ own_piece (λ (g : StoredGrouping). g.batch) (λ (x : StoredBatch). x.id) (file_groupings t) t.batches (own_groupings t a.batch_ids) (length t.batches) 1 a.batch_ids i d within;
        each_record = All-filter (is_record_of b.id) (IsAuditedRecord t) t.records a.each_record;
        each_session = All-filter (is_session_of b.id) (IsAuditedSession t) t.sessions a.each_session;
        counts = a.each_batch i d within;
      }

  pub rules_hold : AllHold rules t
  rules_hold = (
    a.products,
    (
      a.lots,
      (
        few_of,
        (
          a.batch_ids,
          (
            a.session_ids,
            (
              owners_of,
              (
                files_of,
                (
                  a.words,
                  (
                    a.remakes,
                    (
                      a.machines,
                      (a.each_lot, (a.blanks_once, (a.each_blank, (a.opened, (a.marks, (a.kept, (a.marked_once, (a.above, (a.kept_once, tt))))))))),
                    ),
                  ),
                ),
              ),
            ),
          ),
        ),
      ),
    ),
  )
