-- The records of a batch file, in file order.
use Rattle.std.proofs.Common.{◌≡◌, ℕ, ◌<◌, List, [], length, get_or, Some, refl, sym, ap, ◌∙◌, subst, arith}
use Rattle.std.specs.Prelude.{◌==◌, bytes_eq, filter, find}
use Rattle.std.specs.List.{enumerate_from, position_or_len, slice_get}
use Rattle.std.proofs.lemmas.Bool.Decides.{nat_tests}
use Rattle.std.proofs.lemmas.List.{get_or_default, length-map}
use Rattle.std.proofs.lemmas.List.Elements.{All-filter}
use Rattle.std.proofs.lemmas.List.Folds.{find_at}
use Rattle.std.proofs.lemmas.List.FromFn.{length-enumerate_from}
use Rattle.std.proofs.lemmas.List.Sums.{count_by-le-length, length-filter, position_or_len_is}
use Rattle.std.proofs.lemmas.Option.{slice_get-get_or}
use Rattle.store_data.specs.declared.row.Product.{Product}
use Rattle.store_data.specs.declared.row.Row.{Row}
use Rattle.store_data.specs.Groups.{grouped, with_the_key}
use Rattle.store_data.specs.RecordFaults.{HavePlan}
use Rattle.store_data.specs.Sequence.{IsRow}
use Rattle.job_facts.specs.Facts.{Batch}
use Rattle.job_facts.specs.States.{product_named, rows_of, rows_of_record}
use Rattle.table_rows.specs.Tables.{StoredBatch, StoredRecord, StoredSession, Tables}
use Rattle.image_laws.specs.Decided.{batch_of_row}
use Rattle.table_rows.specs.Keys.{is_batch, is_record_at, is_record_of}
use Rattle.row_laws.proofs.Finding.{find-filter}
use Rattle.audit_laws.specs.Audited.{file_rows, is_session_at, key_of}
use Rattle.audit_cards.specs.Files.{HasFile, IsFileOf, names_in}
use Rattle.audit_cards.specs.Sessions.{HasRows}
use Rattle.audit_cards.proofs.RowLemmas.{keys_at}
use Rattle.audit_order.proofs.SameLists.{get_or-map}

-- the rows of a batch whose file has no fault
pub rows_are_read : (products : List Product) (b : Batch) (p : Product) (rows : List Row) → product_named products b.product ≡ Some p → IsFileOf p b.raw rows → rows_of products b ≡ rows
unfolding rows_of
rows_are_read products b p rows there is = rw there (rw is.read refl)

groups_at : (rows : List Row) (k : ℕ) (d : List Row) (n : List ℕ) → k < length (names_in rows) → get_or (grouped (λ (row : Row). row.rec) rows) k d ≡ rows_of_record rows (get_or (names_in rows) k n)
unfolding grouped
groups_at rows k d n within = get_or-map (with_the_key (λ (row : Row). row.rec) rows) (names_in rows) k n d within

module _ (t : Tables) (b : StoredBatch) (p : Product) (groups : List (List Row)) (records : List StoredRecord) (sessions : List StoredSession)
    (has : HasFile t b p groups records sessions) where
  count_is : length records ≡ length (names_in has.file)
  count_is =
      sym (length-map records key_of) ∙ ap length has.keys
      ∙ length-map (enumerate_from 0 (names_in has.file)) (λ (e : ℕ × List ℕ). let key : ℕ × (ℕ × List ℕ) = (b.id, e) in key) ∙ length-enumerate_from 0 (names_in has.file)

  pub groups_count : length groups ≡ length records
  unfolding grouped
  groups_count = ap length has.groups_are ∙ length-map (names_in has.file) (with_the_key (λ (row : Row). row.rec) has.file) ∙ sym count_is

  module _ (k : ℕ) (r : StoredRecord) (within : k < length records) (at : r ≡ get_or records k r) where
    key_is : key_of r ≡ (b.id, (k, get_or (names_in has.file) k []))
    key_is =
        ap key_of at ∙ sym (get_or-map key_of records k r (key_of r) within) ∙ ap (λ ks. get_or ks k (key_of r)) has.keys
        ∙ keys_at b.id (names_in has.file) k (key_of r) [] (omega (arith, count_is))

    pub batch_of : r.batch ≡ b.id
    batch_of = ap (λ (e : ℕ × (ℕ × List ℕ)). e.0) key_is

    pub place_of : r.place ≡ k
    place_of = ap (λ (e : ℕ × (ℕ × List ℕ)). e.1.0) key_is

    name_of : r.name ≡ get_or (names_in has.file) k []
    name_of = ap (λ (e : ℕ × (ℕ × List ℕ)). e.1.1) key_is

  places : (k : ℕ) (d : StoredRecord) → k < length records → (get_or records k d).place ≡ k
  places k d within = place_of k (get_or records k d) within (get_or_default records k d (get_or records k d) within)

  found_there : (k : ℕ) (d : StoredRecord) → k < length records → find (λ (r : StoredRecord). r.place == k) records ≡ Some (get_or records k d)
  found_there k d within =
      let place : position_or_len (λ (r : StoredRecord). r.place == k) records ≡ k =
      position_or_len_is (λ (r : StoredRecord). r.place == k) records k d (omega arith)
      (λ j before. let there = places j d (omega arith) in grind (arith, nat_tests)) (λ inside. let there = places k d within in grind (arith, nat_tests)) in
      find_at (λ (r : StoredRecord). r.place == k) records ∙ ap (slice_get records) place ∙ slice_get-get_or records k d within

  pub has_rows : (k : ℕ) (r : StoredRecord) → k < length records → r ≡ get_or records k r → (group : List Row) → group ≡ get_or groups k group
      → (own : List StoredSession) → own ≡ filter (λ (s : StoredSession). s.place == k) sessions → HasRows t b p group r own
  has_rows k r within at group group_at own own_are =
      let batch : r.batch ≡ b.id = batch_of k r within at in
      let place : r.place ≡ k = place_of k r within at in
      let name : r.name ≡ get_or (names_in has.file) k [] = name_of k r within at in
      let rows : group ≡ rows_of_record has.file r.name =
      group_at ∙ ap (λ gs. get_or gs k group) has.groups_are ∙ groups_at has.file k group [] (omega (arith, count_is)) ∙ ap (rows_of_record has.file) (sym name) in
      let file : file_rows t b ≡ has.file = rows_are_read t.products (batch_of_row b) p has.file has.product_is has.file_is in
      let found : find (is_record_at b.id k) t.records ≡ Some r =
      sym (find-filter (λ (x : StoredRecord). x.place == k) (is_record_of b.id) t.records) ∙ ap (find (λ (x : StoredRecord). x.place == k)) (sym has.records_are)
      ∙ found_there k r within ∙ ap Some (sym at) in
      record {
        batch_is = ap (λ id. find (is_batch id) t.batches) batch ∙ has.batch_is;
        product_is = has.product_is;
        rec_is = ap (λ id. find (is_record_at id r.place) t.records) batch ∙ ap (λ j. find (is_record_at b.id j) t.records) place ∙ found;
        rows_are = rows ∙ ap (λ rs. rows_of_record rs r.name) (sym file);
        planned = subst (HavePlan p) (sym rows) (record {
          product = has.ranged;
          few = omega (arith, has.file_is.ranged.few, length-filter (λ (row : Row). bytes_eq row.rec r.name) has.file, count_by-le-length (λ (row : Row). bytes_eq row.rec r.name) has.file);
          each = All-filter (λ (row : Row). bytes_eq row.rec r.name) IsRow has.file has.file_is.ranged.each;
          none = has.file_is.sound r.name;
        });
        own_are = own_are ∙ has.sessions_at k ∙ sym (ap (λ id. filter (is_session_at id r.place) t.sessions) batch ∙ ap (λ j. filter (is_session_at b.id j) t.sessions) place);
      }
