-- Lemmas about the rows that were found, from the parts of them that were read.
use Rattle.std.proofs.Common.{◌≡◌, ℕ, List, Option, Some, None, refl, sym, ap, subst, ◌∙◌}
use Rattle.std.specs.Prelude.{find, option_map}
use Rattle.job_facts.proofs.Lists.{mapped, unmapped}
use Rattle.row_reads.specs.declared.records.RecordAt.{RecordAt}
use Rattle.row_reads.specs.declared.sessions.SessionAt.{SessionAt}
use Rattle.row_reads.specs.CardDecoding.{record_at, session_at}
use Rattle.table_rows.specs.Keys.{is_batch, is_batch_named, is_record_at, is_record_named, is_session}
use Rattle.table_rows.specs.Tables.{StoredBatch, StoredRecord, StoredSession}
use Rattle.row_laws.specs.RowValues.{record_row, session_in, session_of}
use Rattle.row_laws.proofs.Finding.{option_map-map}
use Rattle.store_reads.specs.Sessions.{row_named}

pub found_some : {X Y : Type 0} (f : X → Y) (o : Option X) (y : Y) → Some y ≡ option_map f o → (x : X) × (o ≡ Some x) × (y ≡ f x)
found_some f o y is = let it = mapped f o y (sym is) in (it.0, it.1, sym it.2)

-- ---- sessions

same_row : (s : SessionAt) (n m : List ℕ) (x : StoredSession) (b : StoredBatch) (y : StoredRecord) → s ≡ session_at x → n ≡ b.name → m ≡ y.name → row_named s n m ≡ session_of x b y
same_row s n m x b y one two three = ap (λ (t : SessionAt). row_named t n m) one ∙ ap (λ k. row_named (session_at x) k m) two ∙ ap (row_named (session_at x) b.name) three

module _ (sessions : List StoredSession) (batches : List StoredBatch) (records : List StoredRecord) (id : ℕ) where
  session_is : (x : StoredSession) (b : StoredBatch) (y : StoredRecord) → find (is_session id) sessions ≡ Some x → find (is_batch x.batch) batches ≡ Some b
      → find (is_record_at x.batch x.place) records ≡ Some y → session_in sessions batches records id ≡ Some (session_of x b y)
  session_is x b y one two three = rw (one, two, three) refl

  pub no_session : None ≡ option_map session_at (find (is_session id) sessions) → None ≡ session_in sessions batches records id
  no_session none = rw (unmapped session_at (find (is_session id) sessions) (sym none)) refl

  module _ (s : SessionAt) (s_is : Some s ≡ option_map session_at (find (is_session id) sessions)) where
    pub no_batch : None ≡ option_map (λ (b : StoredBatch). b.name) (find (is_batch s.batch) batches) → None ≡ session_in sessions batches records id
    no_batch none =
        let x = found_some session_at (find (is_session id) sessions) s s_is in
        let none_at = subst (λ (k : ℕ). find (is_batch k) batches ≡ None) (ap (λ (t : SessionAt). t.batch) x.2) (unmapped (λ (b : StoredBatch). b.name) (find (is_batch s.batch) batches) (sym none)) in
        rw (x.1, none_at) refl

    module _ (n : List ℕ) (n_is : Some n ≡ option_map (λ (b : StoredBatch). b.name) (find (is_batch s.batch) batches)) where
      pub no_record : None ≡ option_map record_at (find (is_record_at s.batch s.place) records) → None ≡ session_in sessions batches records id
      no_record none =
          let x = found_some session_at (find (is_session id) sessions) s s_is in
          let b = found_some (λ (b : StoredBatch). b.name) (find (is_batch s.batch) batches) n n_is in
          let b_at = subst (λ (t : SessionAt). find (is_batch t.batch) batches ≡ Some b.0) x.2 b.1 in
          let none_at = subst (λ (t : SessionAt). find (is_record_at t.batch t.place) records ≡ None) x.2 (unmapped record_at (find (is_record_at s.batch s.place) records) (sym none)) in
          rw (x.1, b_at, none_at) refl

      pub session_read : (m : List ℕ) → Some m ≡ option_map (λ (y : StoredRecord). y.name) (find (is_record_at s.batch s.place) records)
          → Some (row_named s n m) ≡ session_in sessions batches records id
      session_read m m_is =
          let x = found_some session_at (find (is_session id) sessions) s s_is in
          let b = found_some (λ (b : StoredBatch). b.name) (find (is_batch s.batch) batches) n n_is in
          let y = found_some (λ (y : StoredRecord). y.name) (find (is_record_at s.batch s.place) records) m m_is in
          let b_at = subst (λ (t : SessionAt). find (is_batch t.batch) batches ≡ Some b.0) x.2 b.1 in
          let y_at = subst (λ (t : SessionAt). find (is_record_at t.batch t.place) records ≡ Some y.0) x.2 y.1 in
          ap Some (same_row s n m x.0 b.0 y.0 x.2 b.2 y.2) ∙ sym (session_is x.0 b.0 y.0 x.1 b_at y_at)

-- a record that was read has the name of its row
pub name_read : (o : Option StoredRecord) (r : RecordAt) → Some r ≡ option_map record_at o → Some r.name ≡ option_map (λ (y : StoredRecord). y.name) o
name_read o r is = ap (option_map (λ (x : RecordAt). x.name)) is ∙ option_map-map (λ (x : RecordAt). x.name) record_at o

-- ---- records

module _ (batches : List StoredBatch) (records : List StoredRecord) (b r : List ℕ) where
  pub no_batch_of : None ≡ option_map (λ (row : StoredBatch). row.id) (find (is_batch_named b) batches) → None ≡ option_map (λ (x : StoredRecord). x.state) (record_row batches records b r)
  no_batch_of none = rw (unmapped (λ (row : StoredBatch). row.id) (find (is_batch_named b) batches) (sym none)) refl

  pub state_read : (id : ℕ) → Some id ≡ option_map (λ (row : StoredBatch). row.id) (find (is_batch_named b) batches) → (found : Option RecordAt) → found ≡ option_map record_at (find (is_record_named id r) records)
      → option_map (λ (x : RecordAt). x.stands) found ≡ option_map (λ (x : StoredRecord). x.state) (record_row batches records b r)
  state_read id id_is found is =
      let row = found_some (λ (row : StoredBatch). row.id) (find (is_batch_named b) batches) id id_is in
      let is_at = subst (λ (k : ℕ). found ≡ option_map record_at (find (is_record_named k r) records)) row.2 is in
      rw (row.1, is_at) (option_map-map (λ (x : RecordAt). x.stands) record_at (find (is_record_named row.0.id r) records))
