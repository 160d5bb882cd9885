-- Names and numbers in audited rows: a batch is found by its id and by its name, a record by its
-- place and by its name.
use Rattle.std.proofs.Common.{◌≡◌, ℕ, ◌+◌, ◌==◌, ◌&&◌, Bool, true, false, List, [], map, get_or, All, Some, inl, inr, refl, sym, ap, subst, ◌∙◌, arith}
use Rattle.std.specs.Prelude.{AllPairs, bytes_eq, find, option_map, slice_get, unwrap_or}
use Rattle.std.specs.List.{enumerate_from, flat_map}
use Rattle.std.proofs.lemmas.Bool.{and_from, and_left, and_parts, and_right, cases_Bool}
use Rattle.std.proofs.lemmas.List.{length-map}
use Rattle.std.proofs.lemmas.List.Elements.{All-map, All-weaker}
use Rattle.std.proofs.lemmas.Option.{same_Some, slice_get-map}
use Rattle.store_data.proofs.FaultLemmas.{All-from_map}
use Rattle.store_data.proofs.GroupLemmas.{bytes_eq-same}
use Rattle.job_facts.specs.Facts.{Batch, Facts}
use Rattle.job_facts.specs.Sound.{AreBatches}
use Rattle.job_facts.specs.States.{batch_named}
use Rattle.job_facts.proofs.Lists.{find-All}
use Rattle.step_laws.proofs.BlankSums.{bytes_eq_either, named_once}
use Rattle.table_rows.proofs.Found.{find_passes}
use Rattle.image_laws.proofs.Lists.{All-joined}
use Rattle.table_rows.specs.Tables.{PassesOnce, StoredBatch, StoredRecord, Tables}
use Rattle.image_laws.specs.Image.{batch_id, batches_by_id, place_in}
use Rattle.image_laws.proofs.OneRecord.{has_name, records_once}
use Rattle.image_laws.proofs.Places.{HasPlace, found_alone, once_of, placed}
use Rattle.image_laws.specs.Decided.{batch_name, batch_of_row, batch_with, facts_of, found_from, record_name}
use Rattle.image_laws.proofs.Back.{found_from_is}
use Rattle.image_laws.proofs.Sets.{numbered_there}
use Rattle.table_rows.specs.Keys.{is_batch, is_record_at}
use Rattle.row_laws.proofs.Finding.{AllPairs-from_map, AllPairs-map, number_once, once_joined}
use Rattle.audit_laws.specs.Audited.{IsAudited, file_keys, file_records, key_of}
use Rattle.audit_laws.proofs.SoundLists.{equal, found_at, found_each, ids_once, numbered_at, numbered_by, same_number}

-- The batch with the id in `key` exists, and its file has the name in `key` at the place in `key`.
pub record IsPlaced (t : Tables) (key : ℕ × (ℕ × List ℕ)) : Type 0 where
  pub batch : StoredBatch
  pub batch_is : find (is_batch key.0) t.batches ≡ Some batch
  pub name_is : slice_get (file_records t batch) key.1.0 ≡ Some key.1.1

-- The place in `key` is the place of the name `n` if and only if `n` is the name in `key`.
pub place_named : (t : Tables) (key : ℕ × (ℕ × List ℕ)) (is : IsPlaced t key) (n : List ℕ)
    → (key.1.0 == place_in (file_records t is.batch) n) ≡ bytes_eq n key.1.1
place_named t key is n =
    let names : List (List ℕ) = file_records t is.batch in
    let place : ℕ = place_in names n in
    let each : All (HasPlace (bytes_eq n) place) (enumerate_from 0 names) =
    placed (bytes_eq n) 0 place names (records_once t.products (batch_of_row is.batch) n) (omega arith) in
    let number : 0 + key.1.0 ≡ key.1.0 = omega arith in
    ap (λ k. k == place) (sym number) ∙ numbered_at (HasPlace (bytes_eq n) place) 0 names each key.1.0 key.1.1 is.name_is

pub own_place : (t : Tables) (key : ℕ × (ℕ × List ℕ)) (is : IsPlaced t key) → place_in (file_records t is.batch) key.1.1 ≡ key.1.0
own_place t key is =
    sym (same_number key.1.0 (place_in (file_records t is.batch) key.1.1) (place_named t key is key.1.1 ∙ bytes_eq-same key.1.1))

module _ (t : Tables) (audited : IsAudited t) where
  abbrev f : Facts
  f = facts_of t

  abbrev batch_id_of : StoredBatch → ℕ
  batch_id_of b = b.id

  -- ---- batches

  pub batches_are : f.batches ≡ map batch_of_row t.batches
  batches_are =
      ap (found_from (batch_with t) 1) (sym (length-map t.batches batch_of_row))
      ∙ found_from_is (batch_with t) (map batch_of_row t.batches) 1
      (λ j. ap (option_map batch_of_row) (found_at batch_id_of t.batches 1 j audited.batch_ids)
      ∙ sym (slice_get-map batch_of_row t.batches j))

  pub batches_numbered : batches_by_id f ≡ map (λ (b : StoredBatch). let e : ℕ × Batch = (b.id, batch_of_row b) in e) t.batches
  batches_numbered = ap (enumerate_from 1) batches_are ∙ numbered_by batch_id_of batch_of_row t.batches 1 audited.batch_ids

  pub are_batches : AreBatches t.products f.batches
  are_batches = subst (AreBatches t.products) (sym batches_are) audited.batches

  pub batch_once : (id : ℕ) → PassesOnce (is_batch id) t.batches
  batch_once id = ids_once batch_id_of t.batches 1 id audited.batch_ids

  -- A look-up of the id of a batch finds this batch, and therefore its name.
  pub batch_found : All (λ (b : StoredBatch). find (is_batch b.id) t.batches ≡ Some b) t.batches
  batch_found = found_each batch_id_of t.batches 1 audited.batch_ids

  pub name_found : (id : ℕ) (b : StoredBatch) → find (is_batch id) t.batches ≡ Some b → batch_name t id ≡ b.name
  name_found id b found = ap (λ o. unwrap_or (option_map (λ (x : StoredBatch). x.name) o) []) found

  pub id_found : (id : ℕ) (b : StoredBatch) → find (is_batch id) t.batches ≡ Some b → b.id ≡ id
  id_found id b found = same_number b.id id (find_passes (is_batch id) t.batches b found)

  once : (n : List ℕ) → AllPairs (λ (x y : Batch). has_name n x ≡ true → has_name n y ≡ false) f.batches
  once n = named_once (λ (b : Batch). b.name) f.batches n are_batches.once

  -- The id of a batch is the id of the name `n` if and only if the batch has the name `n`.
  pub ids_named : (n : List ℕ) → All (λ (b : StoredBatch). (b.id == batch_id f.batches n) ≡ bytes_eq b.name n) t.batches
  ids_named n =
      let id : ℕ = batch_id f.batches n in
      All-from_map (λ (b : StoredBatch). let e : ℕ × Batch = (b.id, batch_of_row b) in e) (HasPlace (has_name n) id) t.batches
      (subst (All (HasPlace (has_name n) id)) batches_numbered
      (placed (has_name n) 1 id f.batches (once_of (has_name n) f.batches (once n)) refl))

  pub own_ids : All (λ (b : StoredBatch). batch_id f.batches b.name ≡ b.id) t.batches
  own_ids k d within =
      let b = get_or t.batches k d in
      sym (same_number b.id (batch_id f.batches b.name) (ids_named b.name k d within ∙ bytes_eq-same b.name))

  -- A look-up of the name of a batch finds this batch.
  pub named_found : All (λ (b : StoredBatch). batch_named f.batches b.name ≡ Some (batch_of_row b)) t.batches
  named_found k d within =
      let b = get_or t.batches k d in
      let n : List ℕ = b.name in
      All-from_map batch_of_row (λ (x : Batch). has_name n x ≡ true → batch_named f.batches n ≡ Some x) t.batches
      (subst (All (λ (x : Batch). has_name n x ≡ true → batch_named f.batches n ≡ Some x)) batches_are
      (found_alone (has_name n) f.batches (once_of (has_name n) f.batches (once n))))
      k d within (bytes_eq-same n)

  -- Two batches have the same name if and only if they have the same id.
  pub same_batches : (b : StoredBatch) → batch_id f.batches b.name ≡ b.id
      → All (λ (c : StoredBatch). bytes_eq c.name b.name ≡ (c.id == b.id)) t.batches
  same_batches b own k d within = let c = get_or t.batches k d in sym (ids_named b.name k d within) ∙ ap (λ id. c.id == id) own

  -- A property of all batches is a property of the batch that a look-up finds.
  pub of_batch : (P : StoredBatch → Type 0) (id : ℕ) (b : StoredBatch) → All P t.batches → find (is_batch id) t.batches ≡ Some b → P b
  of_batch P id b each found = find-All (is_batch id) P t.batches b each found

  -- ---- records

  placed_in : (b : StoredBatch) → find (is_batch b.id) t.batches ≡ Some b → All (IsPlaced t) (file_keys t b)
  placed_in b found =
      let names : List (List ℕ) = file_records t b in
      All-map (IsPlaced t) (λ (e : ℕ × List ℕ). (b.id, e)) (enumerate_from 0 names)
      (All-weaker (λ (e : ℕ × List ℕ). (k : ℕ) × (e.0 ≡ 0 + k) × (slice_get names k ≡ Some e.1)) (λ e. IsPlaced t (b.id, e))
      (λ e own.
      let place : own.0 ≡ e.0 = omega (arith, own.1) in
      record { batch = b; batch_is = found; name_is = ap (slice_get names) (sym place) ∙ own.2 })
      (enumerate_from 0 names) (numbered_there 0 names))

  pub records_placed : All (λ (r : StoredRecord). IsPlaced t (key_of r)) t.records
  records_placed =
      All-from_map key_of (IsPlaced t) t.records
      (subst (All (IsPlaced t)) (sym audited.records)
      (All-joined (IsPlaced t) (file_keys t) t.batches (λ k d within. placed_in (get_or t.batches k d) (batch_found k d within))))

  abbrev is_key_at : ℕ → ℕ → ℕ × (ℕ × List ℕ) → Bool
  is_key_at id place key = (key.0 == id) && (key.1.0 == place)

  keys_once_in : (id place : ℕ) (b : StoredBatch) → PassesOnce (is_key_at id place) (file_keys t b)
  keys_once_in id place b =
      AllPairs-map (λ x y. is_key_at id place x ≡ true → is_key_at id place y ≡ false) (λ (e : ℕ × List ℕ). (b.id, e))
      (enumerate_from 0 (file_records t b))
      (λ i j d before within hit. and_right (b.id == id) _
      (number_once place 0 (file_records t b) i j d before within (and_parts (b.id == id) _ hit).1))

  keys_once : (id place : ℕ) → PassesOnce (is_key_at id place) (flat_map (file_keys t) t.batches)
  keys_once id place =
      once_joined (is_key_at id place) (is_batch id) (file_keys t)
      (λ b miss. All-map (λ key. is_key_at id place key ≡ false) (λ (e : ℕ × List ℕ). (b.id, e)) (enumerate_from 0 (file_records t b))
      (λ k d within. and_left (b.id == id) _ miss))
      t.batches (batch_once id) (keys_once_in id place)

  -- At most one record has a place in a batch.
  pub record_once : (id place : ℕ) → PassesOnce (is_record_at id place) t.records
  record_once id place =
      AllPairs-from_map (λ x y. is_key_at id place x ≡ true → is_key_at id place y ≡ false) key_of t.records
      (subst (PassesOnce (is_key_at id place)) (sym audited.records) (keys_once id place))

  pub record_found : All (λ (r : StoredRecord). find (is_record_at r.batch r.place) t.records ≡ Some r) t.records
  record_found k d within =
      let r = get_or t.records k d in
      found_alone (is_record_at r.batch r.place) t.records
      (once_of (is_record_at r.batch r.place) t.records (record_once r.batch r.place)) k d within
      (and_from (r.batch == r.batch) (r.place == r.place) (equal r.batch r.batch refl) (equal r.place r.place refl))

  pub record_name_found : (id place : ℕ) (r : StoredRecord) → find (is_record_at id place) t.records ≡ Some r
      → record_name t id place ≡ r.name
  record_name_found id place r found = ap (λ o. unwrap_or (option_map (λ (x : StoredRecord). x.name) o) []) found

  pub of_record : (P : StoredRecord → Type 0) (id place : ℕ) (r : StoredRecord) → All P t.records
      → find (is_record_at id place) t.records ≡ Some r → P r
  of_record P id place r each found = find-All (is_record_at id place) P t.records r each found

  pub key_found : (id place : ℕ) (r : StoredRecord) → find (is_record_at id place) t.records ≡ Some r → (r.batch ≡ id) × (r.place ≡ place)
  key_found id place r found =
      let parts = and_parts (r.batch == id) (r.place == place) (find_passes (is_record_at id place) t.records r found) in
      (same_number r.batch id parts.0, same_number r.place place parts.1)

  -- ---- records by their names

  module _ (q r : StoredRecord) (at_q : IsPlaced t (key_of q)) (at_r : IsPlaced t (key_of r)) where
    abbrev names_same : Bool
    names_same = bytes_eq at_q.batch.name at_r.batch.name && bytes_eq q.name r.name

    one_batch : q.batch ≡ r.batch → names_same ≡ (q.place == r.place)
    one_batch same =
        let batch : at_q.batch ≡ at_r.batch =
        same_Some at_q.batch at_r.batch (sym at_q.batch_is ∙ ap (λ id. find (is_batch id) t.batches) same ∙ at_r.batch_is) in
        let there : place_in (file_records t at_q.batch) r.name ≡ r.place =
        ap (λ b. place_in (file_records t b) r.name) batch ∙ own_place t (key_of r) at_r in
        ap (λ b. bytes_eq b.name at_r.batch.name && bytes_eq q.name r.name) batch
        ∙ ap (λ b. b && bytes_eq q.name r.name) (bytes_eq-same at_r.batch.name)
        ∙ bytes_eq_either q.name r.name
        ∙ sym (place_named t (key_of q) at_q r.name) ∙ ap (λ place. q.place == place) there

    other_batch : (q.batch == r.batch) ≡ false → names_same ≡ false
    other_batch miss =
        let own = of_batch (λ b. batch_id f.batches b.name ≡ b.id) r.batch at_r.batch own_ids at_r.batch_is in
        let named =
        of_batch (λ c. bytes_eq c.name at_r.batch.name ≡ (c.id == at_r.batch.id)) q.batch at_q.batch
        (same_batches at_r.batch own) at_q.batch_is in
        and_left (bytes_eq at_q.batch.name at_r.batch.name) (bytes_eq q.name r.name)
        (named ∙ ap (λ id. id == at_r.batch.id) (id_found q.batch at_q.batch at_q.batch_is)
        ∙ ap (λ id. q.batch == id) (id_found r.batch at_r.batch at_r.batch_is) ∙ miss)

    -- Two records have the same name if and only if they have the same place in the same batch.
    pub same_names : (bytes_eq (batch_name t q.batch) (batch_name t r.batch) && bytes_eq q.name r.name)
        ≡ ((q.batch == r.batch) && (q.place == r.place))
    same_names =
        ap (λ n. bytes_eq n (batch_name t r.batch) && bytes_eq q.name r.name) (name_found q.batch at_q.batch at_q.batch_is)
        ∙ ap (λ n. bytes_eq at_q.batch.name n && bytes_eq q.name r.name) (name_found r.batch at_r.batch at_r.batch_is)
        ∙ elim (cases_Bool (q.batch == r.batch)) [
          | inl hit ↦ one_batch (same_number q.batch r.batch hit) ∙ ap (λ b. b && (q.place == r.place)) (sym hit)
          | inr miss ↦ other_batch miss ∙ ap (λ b. b && (q.place == r.place)) (sym miss)
        ]
