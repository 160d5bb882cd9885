-- The checks of a batch against its file and its sessions.
use Rattle.std.proofs.Common.{◌≡◌, ℕ, ◌-◌, ◌<◌, true, cond, ltb, ◌&&◌, List, [], ◌∷◌, length, get_or, map, All, Some, None, Ok, refl, sym, ap, ◌∙◌, subst, arith}
use Rattle.std.specs.Prelude.{◌==◌, IsPermutation, IsTrue, filter, find}
use Rattle.std.specs.List.{enumerate_from, list_all, position_or_len, slice_get}
use Rattle.std.specs.List.Sorted.{IsNonDecreasingBy}
use Rattle.std.proofs.lemmas.Bool.{and_parts}
use Rattle.std.proofs.lemmas.Bool.Decides.{nat_tests}
use Rattle.std.proofs.lemmas.List.{get_or_default, length-map}
use Rattle.std.proofs.lemmas.List.Elements.{All-cons, All-filter, All-head, All-nil, All-tail, filter_passes}
use Rattle.std.proofs.lemmas.List.Folds.{find_at}
use Rattle.std.proofs.lemmas.List.Sums.{passes_at_first}
use Rattle.std.proofs.lemmas.List.Sorted.{All-permutation, IsPermutation-sym, length_permutation, sum_by-IsPermutation}
use Rattle.std.proofs.lemmas.Option.{none-some, same_Some, slice_get_within}
use Rattle.store_data.specs.declared.row.Product.{Product}
use Rattle.store_data.specs.declared.row.Row.{Row}
use Rattle.store_data.specs.Groups.{grouped}
use Rattle.store_data.specs.Sequence.{IsProduct}
use Rattle.batch_import.specs.Batch.{batch_of as read_under}
use Rattle.job_facts.specs.declared.facts.RecordState.{RecordState}
use Rattle.job_facts.specs.declared.facts.RecordState.TheVariants as rec
use Rattle.job_facts.specs.declared.facts.SessionState.TheVariants as session
use Rattle.job_facts.specs.Accounts.{count_records, count_sessions}
use Rattle.job_facts.specs.Sound.{IsBatch, IsName}
use Rattle.job_facts.specs.States.{is_finished, product_named, records_of, same_record_state, same_session_state}
use Rattle.step_laws.proofs.Permuted.{IsPermutation-filter}
use Rattle.table_rows.specs.Tables.{StoredBatch, StoredRecord, StoredSession, Tables}
use Rattle.table_rows.specs.After.{new_grouping}
use Rattle.image_laws.specs.Decided.{batch_of_row}
use Rattle.table_rows.specs.Keys.{is_batch, is_grouping_of, is_record_at, is_record_of}
use Rattle.row_laws.proofs.Finding.{find-filter}
use Rattle.row_laws.proofs.TotalRows.{sum_by-map}
use Rattle.audit_laws.specs.Audited.{IsAuditedBatch, IsAuditedRecord, IsAuditedSession, file_groupings, file_keys, file_records, file_rows, is_session_at, is_session_of, key_of, record_states_of, session_states_of}
use Rattle.audit_cards.specs.Files.{CountsBy, HasFile, IsFileOf, IsUnread, groupings_in, keys_of, names_in, records_in_state, sessions_in_state}
use Rattle.audit_cards.specs.Sessions.{AreByRecord, HasRows, IsAuditedFile, IsAuditedWith}
use Rattle.audit_cards.proofs.FileLemmas.{batch_of, groups_count, has_rows, place_of, rows_are_read}
use Rattle.audit_order.proofs.SameLists.{get_or-map}
use Rattle.audit_order.proofs.Pieces.{All-passed, filter-both, filter-filter}

module _ (t : Tables) (b : StoredBatch) where
  -- ---- the file

  module _ (p : Product) (there : product_named t.products b.product ≡ Some p) where
    product_of_batch : (is : IsBatch t.products (batch_of_row b)) → is.product ≡ p
    product_of_batch is = same_Some is.product p (sym is.there ∙ there)

    pub unread_refuses : IsUnread p b.raw → IsAuditedFile t b → ⊥
    unread_refuses unread a = unread a.batch.rows (subst (λ q. read_under q b.raw ≡ Ok a.batch.rows) (product_of_batch a.batch) a.batch.read)

    module _ (rows : List Row) (file : IsFileOf p b.raw rows) where
      rows_here : file_rows t b ≡ rows
      rows_here = rows_are_read t.products (batch_of_row b) p rows there file

      names_here : file_records t b ≡ names_in rows
      unfolding records_of
      names_here = ap names_in rows_here

      pub keys_here : file_keys t b ≡ keys_of b.id (names_in rows)
      keys_here = ap (keys_of b.id) names_here

      pub groupings_here : file_groupings t b ≡ groupings_in b.id rows
      groupings_here = λ i. map (new_grouping b.id (names_here i)) (enumerate_from 2 (rows_here i))

      pub batch_read : IsName b.name → IsBatch t.products (batch_of_row b)
      batch_read named = record { named = named; product = p; there = there; rows = rows; read = file.read; ranged = file.ranged }

  pub no_product : product_named t.products b.product ≡ None → IsAuditedFile t b → ⊥
  no_product none a = absurd (none-some a.batch.product (sym none ∙ a.batch.there))

  -- ---- the counters

  module _ (records : List StoredRecord) (records_are : records ≡ filter (is_record_of b.id) t.records)
      (sessions : List StoredSession) (same : IsPermutation (filter (is_session_of b.id) t.sessions) sessions) where
    states_are : map (λ (r : StoredRecord). r.state) records ≡ record_states_of t b
    states_are = ap (map (λ (r : StoredRecord). r.state)) records_are

    so_many : (state : RecordState) → records_in_state state records ≡ count_records (record_states_of t b) state
    so_many state = sym (sum_by-map (λ s. cond (same_record_state state s) 1 0) (λ (r : StoredRecord). r.state) records) ∙ ap (λ states. count_records states state) states_are

    so_spoiled : sessions_in_state session.Spoiled sessions ≡ count_sessions (session_states_of t b) session.Spoiled
    so_spoiled =
        sum_by-IsPermutation (λ (s : StoredSession). cond (same_session_state session.Spoiled s.state) 1 0) (filter (is_session_of b.id) t.sessions) sessions same
        ∙ sym (sum_by-map (λ s. cond (same_session_state session.Spoiled s) 1 0) (λ (s : StoredSession). s.state) (filter (is_session_of b.id) t.sessions))

    so_long : length sessions ≡ length (session_states_of t b)
    so_long = length_permutation (filter (is_session_of b.id) t.sessions) sessions same ∙ sym (length-map (filter (is_session_of b.id) t.sessions) (λ (s : StoredSession). s.state))

    finished_all : (rs : List StoredRecord) → list_all (λ (r : StoredRecord). is_finished r.state) rs ≡ true → All (λ state. IsTrue (is_finished state)) (map (λ (r : StoredRecord). r.state) rs)
    finished_all [] passes = All-nil (λ state. IsTrue (is_finished state))
    finished_all (r ∷ rs) passes =
        let parts = and_parts (is_finished r.state) (list_all (λ (r : StoredRecord). is_finished r.state) rs) passes in
        All-cons (λ state. IsTrue (is_finished state)) r.state (map (λ (r : StoredRecord). r.state) rs) parts.0 (finished_all rs parts.1)

    all_finished : (rs : List StoredRecord) → All (λ state. IsTrue (is_finished state)) (map (λ (r : StoredRecord). r.state) rs) → list_all (λ (r : StoredRecord). is_finished r.state) rs ≡ true
    all_finished [] all = refl
    all_finished (r ∷ rs) all =
        ap (λ x. x && list_all (λ (r : StoredRecord). is_finished r.state) rs) (All-head (λ state. IsTrue (is_finished state)) r.state (map (λ (r : StoredRecord). r.state) rs) all)
        ∙ all_finished rs (All-tail (λ state. IsTrue (is_finished state)) r.state (map (λ (r : StoredRecord). r.state) rs) all)

    pub audited_counts : IsAuditedBatch t b → CountsBy records sessions b
    audited_counts a = (
      record {
        waiting = a.waiting ∙ sym (so_many rec.Waiting);
        running = a.running ∙ sym (so_many rec.Running);
        failed = a.failed ∙ sym (so_many rec.Failed);
        withdrawn = a.withdrawn ∙ sym (so_many rec.Withdrawn);
        good = a.good ∙ sym (so_many rec.Good);
      },
      record { all = a.sessions ∙ sym so_long; spoiled = a.spoiled ∙ sym so_spoiled },
      λ closed. all_finished records (subst (All (λ state. IsTrue (is_finished state))) (sym states_are) (a.closed closed)),
    )

    pub counts_audited : CountsBy records sessions b → IsAuditedBatch t b
    counts_audited a = record {
      waiting = a.0.waiting ∙ so_many rec.Waiting;
      running = a.0.running ∙ so_many rec.Running;
      failed = a.0.failed ∙ so_many rec.Failed;
      withdrawn = a.0.withdrawn ∙ so_many rec.Withdrawn;
      good = a.0.good ∙ so_many rec.Good;
      sessions = a.1.all ∙ so_long;
      spoiled = a.1.spoiled ∙ so_spoiled;
      closed = λ closed. subst (All (λ state. IsTrue (is_finished state))) states_are (finished_all records (a.2 closed));
    }

-- ---- the records and their sessions

some_record : StoredRecord
some_record = record { batch = 0; place = 0; name = []; state = rec.Waiting; spoiled = 0; remakes = 0 }

module _ (t : Tables) (b : StoredBatch) (p : Product) (groups : List (List Row)) (records : List StoredRecord) (sessions : List StoredSession)
    (has : HasFile t b p groups records sessions) (same : IsPermutation (filter (is_session_of b.id) t.sessions) sessions) where
  at_within : (id place : ℕ) → id ≡ b.id → filter (is_session_at id place) (filter (is_session_of b.id) t.sessions) ≡ filter (is_session_at id place) t.sessions
  at_within id place is = filter-filter (is_session_of b.id) (is_session_at id place) (λ s at. let parts = and_parts (s.batch == id) (s.place == place) at in ap (λ n. s.batch == n) (sym is) ∙ parts.0) t.sessions

  batch_here : (k : ℕ) (d : StoredRecord) → k < length records → (get_or records k d).batch ≡ b.id
  batch_here k d within = batch_of t b p groups records sessions has k (get_or records k d) within (get_or_default records k d (get_or records k d) within)

  place_here : (k : ℕ) (d : StoredRecord) → k < length records → (get_or records k d).place ≡ k
  place_here k d within = place_of t b p groups records sessions has k (get_or records k d) within (get_or_default records k d (get_or records k d) within)

  pub each_session : All (IsAuditedWith t) records → All (λ (s : StoredSession). s.place < length records) sessions → All (IsAuditedSession t) (filter (is_session_of b.id) t.sessions)
  each_session all placed = λ k d within.
      let mine : List StoredSession = filter (is_session_of b.id) t.sessions in
      let s : StoredSession = get_or mine k d in
      let of_batch = filter_passes (is_session_of b.id) t.sessions k d within in
      let place : s.place < length records = All-permutation (λ (x : StoredSession). x.place < length records) sessions mine (IsPermutation-sym mine sessions same) placed k d within in
      let r : StoredRecord = get_or records s.place some_record in
      let batch : r.batch ≡ b.id = batch_here s.place some_record place in
      let there : r.place ≡ s.place = place_here s.place some_record place in
      let with_record = (all s.place some_record place).1 in
      let among = All-passed (is_session_at r.batch r.place) (IsAuditedSession t) mine (subst (All (IsAuditedSession t)) (sym (at_within r.batch r.place batch)) with_record) in
      let passes : is_session_at r.batch r.place s ≡ true = grind (arith, nat_tests) in
      among k d within passes

  pub each_record : All (IsAuditedWith t) records → All (IsAuditedRecord t) records
  each_record all = λ k d within. (all k d within).0

  pub with_sessions : All (IsAuditedRecord t) records → All (IsAuditedSession t) (filter (is_session_of b.id) t.sessions) → All (IsAuditedWith t) records
  with_sessions each those = λ k d within.
      let r : StoredRecord = get_or records k d in (
        each k d within,
        subst (All (IsAuditedSession t)) (at_within r.batch r.place (batch_here k d within))
            (All-filter (is_session_at r.batch r.place) (IsAuditedSession t) (filter (is_session_of b.id) t.sessions) those),
      )

  place_found : (s : StoredSession) → s.batch ≡ b.id → (r : StoredRecord) → find (is_record_at s.batch s.place) t.records ≡ Some r → s.place < length records
  place_found s of_batch r found =
      let among : find (λ (x : StoredRecord). x.place == s.place) records ≡ Some r =
      ap (find (λ (x : StoredRecord). x.place == s.place)) has.records_are ∙ find-filter (λ (x : StoredRecord). x.place == s.place) (is_record_of b.id) t.records
      ∙ ap (λ id. find (is_record_at id s.place) t.records) (sym of_batch) ∙ found in
      let at : ℕ = position_or_len (λ (x : StoredRecord). x.place == s.place) records in
      let there : slice_get records at ≡ Some r = sym (find_at (λ (x : StoredRecord). x.place == s.place) records) ∙ among in
      let within : at < length records = slice_get_within records at r there in
      let passes = passes_at_first (λ (x : StoredRecord). x.place == s.place) records r within in
      let place : (get_or records at r).place ≡ at = place_here at r within in
      let is : (get_or records at r).place ≡ s.place = grind (arith, nat_tests) in
      omega arith

  pub are_placed : All (IsAuditedSession t) (filter (is_session_of b.id) t.sessions) → All (λ (s : StoredSession). s.place < length records) sessions
  are_placed those =
      let mine : List StoredSession = filter (is_session_of b.id) t.sessions in
      All-permutation (λ (s : StoredSession). s.place < length records) mine sessions same (λ k d within.
      let a = those k d within in
      let of_batch = filter_passes (is_session_of b.id) t.sessions k d within in
      let id : (get_or mine k d).batch ≡ b.id = grind (arith, nat_tests) in
      place_found (get_or mine k d) id a.rec a.rec_is)

-- ---- the sessions of a batch, among all sessions in the order of their records

module _ (sessions by_record : List StoredSession) (by : AreByRecord sessions by_record) (id : ℕ) (own : List StoredSession) (own_are : own ≡ filter (is_session_of id) by_record) where
  pub own_same : IsPermutation (filter (is_session_of id) sessions) own
  own_same = subst (λ (xs : List StoredSession). IsPermutation (filter (is_session_of id) sessions) xs) (sym own_are) (IsPermutation-filter (is_session_of id) sessions by_record by.same)

  pub own_rising : IsNonDecreasingBy (λ (s : StoredSession). s.place) own
  own_rising = subst (λ (xs : List StoredSession). IsNonDecreasingBy (λ (s : StoredSession). s.place) xs) (sym own_are) (by.places id)

  pub own_at : (place : ℕ) → filter (λ (s : StoredSession). s.place == place) own ≡ filter (is_session_at id place) sessions
  own_at place =
      ap (filter (λ (s : StoredSession). s.place == place)) own_are ∙ filter-both (λ (s : StoredSession). s.place == place) (is_session_of id) by_record ∙ by.stable id place

-- ---- a whole batch

module _ (t : Tables) (b : StoredBatch) (p : Product) (rows : List Row) (groups : List (List Row)) (records : List StoredRecord) (sessions : List StoredSession)
    (has : HasFile t b p groups records sessions) (same : IsPermutation (filter (is_session_of b.id) t.sessions) sessions) (file_is : has.file ≡ rows) where
  pub audited_file : IsName b.name → filter (is_grouping_of b.id) t.groupings ≡ groupings_in b.id rows → CountsBy records sessions b
      → All (λ (s : StoredSession). s.place < length records) sessions → All (IsAuditedWith t) records → IsAuditedFile t b
  audited_file named groupings counts placed all = record {
    batch = batch_read t b p has.product_is has.file has.file_is named;
    records = ap (map key_of) (sym has.records_are) ∙ has.keys ∙ sym (keys_here t b p has.product_is has.file has.file_is);
    groupings = groupings ∙ ap (groupings_in b.id) (sym file_is) ∙ sym (groupings_here t b p has.product_is has.file has.file_is);
    each_record = subst (All (IsAuditedRecord t)) has.records_are (each_record t b p groups records sessions has same all);
    each_session = each_session t b p groups records sessions has same all placed;
    counts = counts_audited t b records has.records_are sessions same counts;
  }

  pub file_audited : IsAuditedFile t b → All (IsAuditedWith t) records
  file_audited a = with_sessions t b p groups records sessions has same (subst (All (IsAuditedRecord t)) (sym has.records_are) a.each_record) a.each_session

module _ (t : Tables) (b : StoredBatch) (p : Product) (rows : List Row) (records : List StoredRecord) (by_record own : List StoredSession)
    (batch_is : find (is_batch b.id) t.batches ≡ Some b) (product_is : product_named t.products b.product ≡ Some p) (ranged : IsProduct p) (file_is : IsFileOf p b.raw rows)
    (records_are : records ≡ filter (is_record_of b.id) t.records) (keys : map key_of records ≡ keys_of b.id (names_in rows))
    (by : AreByRecord t.sessions by_record) (own_are : own ≡ filter (is_session_of b.id) by_record) where
  pub file_parts : HasFile t b p (grouped (λ (row : Row). row.rec) rows) records own
  file_parts = record {
    batch_is = batch_is;
    product_is = product_is;
    ranged = ranged;
    file = rows;
    file_is = file_is;
    groups_are = refl;
    records_are = records_are;
    keys = keys;
    rising = own_rising t.sessions by_record by b.id own own_are;
    sessions_at = own_at t.sessions by_record by b.id own own_are;
  }

  pub parts_file : file_parts.file ≡ rows
  unfolding file_parts
  parts_file = refl

  pub all_placed : IsAuditedFile t b → All (λ (s : StoredSession). s.place < length records) own
  all_placed a = are_placed t b p (grouped (λ (row : Row). row.rec) rows) records own file_parts (own_same t.sessions by_record by b.id own own_are) a.each_session

-- ---- the places of all sessions, from the last one

pub by_last : (xs : List StoredSession) → IsNonDecreasingBy (λ (s : StoredSession). s.place) xs → (x : StoredSession) → true ≡ ltb 0 (length xs) → x ≡ get_or xs (length xs - 1) x
    → (place count : ℕ) → place ≡ x.place → (ltb place count ≡ true → All (λ (s : StoredSession). s.place < count) xs) × (All (λ (s : StoredSession). s.place < count) xs → ltb place count ≡ true)
by_last xs rising x some is place count place_is =
    let within : 0 < length xs = grind (arith, nat_tests) in
    let last : (d : StoredSession) → (get_or xs (length xs - 1) d).place ≡ x.place = λ d. ap (λ (s : StoredSession). s.place) (get_or_default xs (length xs - 1) d x (omega arith) ∙ sym is) in (
      λ below k d inside.
          let up = rising k (length xs - 1) d (omega arith) (omega arith) in
          let top = last d in
          let small : place < count = grind (arith, nat_tests) in omega arith,
      λ all.
          let here = all (length xs - 1) x (omega arith) in
          let top = last x in
          let small : place < count = omega arith in grind (arith, nat_tests),
    )

-- ---- a record with its sessions

module _ (t : Tables) (b : StoredBatch) (p : Product) (rows : List Row) (r : StoredRecord) (own : List StoredSession) (has : HasRows t b p rows r own) where
  pub with_own : IsAuditedRecord t r × All (IsAuditedSession t) own → IsAuditedWith t r
  with_own a = (a.0, subst (All (IsAuditedSession t)) has.own_are a.1)

  pub own_with : IsAuditedWith t r → IsAuditedRecord t r × All (IsAuditedSession t) own
  own_with a = (a.0, subst (All (IsAuditedSession t)) (sym has.own_are) a.1)

-- the rows of the record at a place, if `groups` has one list of rows for each record
module _ {G : Type 0} (items : G → List Row) (groups : List G) (t : Tables) (b : StoredBatch) (p : Product) (records : List StoredRecord) (sessions : List StoredSession)
    (has : HasFile t b p (map items groups) records sessions) where
  pub groups_many : length groups ≡ length records
  groups_many = sym (length-map groups items) ∙ groups_count t b p (map items groups) records sessions has

  pub rows_at : (k : ℕ) → k < length records → (r : StoredRecord) → r ≡ get_or records k r → (g : G) → g ≡ get_or groups k g → (rows : List Row) → rows ≡ items g
      → (own : List StoredSession) → own ≡ filter (λ (s : StoredSession). s.place == k) sessions → HasRows t b p rows r own
  rows_at k within r r_is g g_is rows rows_are own own_are =
      has_rows t b p (map items groups) records sessions has k r within r_is rows
      (rows_are ∙ ap items g_is ∙ sym (get_or-map items groups k g rows (omega (arith, groups_many)))) own own_are
