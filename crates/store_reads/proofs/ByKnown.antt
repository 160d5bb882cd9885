-- Lemmas about reads of contents that use a cached record.
use Rattle.std.proofs.Common.{◌≡◌, ℕ, List, Contains, Option, Some, None, Result, Ok, Err, IsTrue, map, sym, ap, subst, ◌∙◌, arith}
use Rattle.std.specs.Prelude.{filter, find, option_map}
use Rattle.std.specs.List.{flat_map}
use Rattle.std.specs.Coded.{coded_option}
use Rattle.std.proofs.Math.Logic.{∥∥₁_elim}
use Rattle.std.proofs.Props.{props}
use Rattle.std.proofs.lemmas.List.Elements.{All-contains}
use base.Stored.{Coded-set}
use Rattle.sqlite.specs.State.{HasCleanDisk, State}
use Rattle.sqlite.specs.declared.error.Error.{Error}
use Rattle.job_facts.specs.contracts.rows.SegmentRow.{the_row}
use Rattle.job_facts.specs.declared.rows.SegmentRow.{SegmentRow}
use Rattle.job_facts.specs.Contents.{AreSound, Contents}
use Rattle.job_facts.specs.Facts.{Facts}
use Rattle.job_facts.specs.Rows.{segment_row_of}
use Rattle.job_facts.specs.Sound.{IsSound}
use Rattle.job_facts.specs.States.{first_waiting, plan_for}
use Rattle.table_rows.specs.Keys.{is_batch, is_batch_named, is_grouping_at, is_record_at, is_record_named, is_session, is_waiting_of}
use Rattle.table_rows.specs.Tables.{PassesOnce, StoredBatch, StoredRecord, Tables}
use Rattle.image_laws.specs.Image.{image, stored_batches, stored_groupings, stored_records, stored_sessions}
use Rattle.row_laws.specs.RowValues.{plan_in, session_in, waiting_in}
use Rattle.row_reads.specs.declared.groupings.CodedAt.{CodedAt}
use Rattle.row_reads.specs.declared.sessions.SessionAt.{SessionAt}
use Rattle.row_reads.specs.CardDecoding.{coded_at, coded_line, grouping_at, is_of_segment, line_of, place_of, record_at, session_at}
use Rattle.row_reads.specs.Extremes.{AreSorted}
use Rattle.row_reads.specs.Reads.{Looks, ReadsRows}
use Rattle.sql_rows.specs.Image.{IsImage}
use Rattle.store_reads.specs.declared.known.Known.{Known}
use Rattle.store_reads.specs.declared.known.KnownRecord.{KnownRecord}
use Rattle.store_reads.specs.declared.plans.PlacedHead.{PlacedHead}
use Rattle.store_reads.specs.declared.segments.BatchProduct.{BatchProduct}
use Rattle.store_reads.specs.Fixed.{AreNamedApart, fixed}
use Rattle.store_reads.specs.Known.{IsAllKnownIn, IsKnownIn, IsNamed, Knows, known_heads, known_records}
use Rattle.store_reads.specs.Segments.{head_at, plan_at, row_in_plan}
use Rattle.store_reads.specs.Sessions.{row_named}
use Rattle.store_reads.specs.ReadsContents.{ReadsContents}
use Rattle.store_reads.specs.Waiting.{IsFirstWaiting}
use Rattle.store_reads.proofs.Found.{session_read}
use Rattle.store_reads.proofs.KnownRows.{all_known_in, batch_with_id, id_with_name, known_in, names_apart, product_with_name, record_with_name, record_with_place}
use Rattle.store_reads.proofs.Ordered.{Rises}
use Rattle.store_reads.proofs.SegmentRows.{row_of_head, row_with_head, row_without_head, segment_read}
use Rattle.store_reads.proofs.ReadContents.{Shows, ShowsRows}
use Rattle.store_reads.proofs.Waiting.{first_waits}

pub sound_apart : ((f : Facts) (n : List ℕ) → IsSound f → PassesOnce (is_batch_named n) (stored_batches f)) → ((f : Facts) (id : ℕ) (n : List ℕ) → PassesOnce (is_record_named id n) (stored_records f))
    → (c : Contents) → AreSound c → AreNamedApart (fixed (image c))
sound_apart batches records c sound = names_apart c sound.facts.named.products.once (λ n. batches c.facts n sound.facts) (records c.facts)

-- ---- a session

module _ (c : Contents) (k : KnownRecord) (known : ∥ IsKnownIn (fixed (image c)) k ∥₁) (batches_once : (id : ℕ) → PassesOnce (is_batch id) (stored_batches c.facts))
    (records_once : (id place : ℕ) → PassesOnce (is_record_at id place) (stored_records c.facts)) where
  batch_named : (n : ℕ) → k.id ≡ n → Some k.batch ≡ option_map (λ (b : StoredBatch). b.name) (find (is_batch n) (stored_batches c.facts))
  batch_named n is =
      subst (λ (m : ℕ). Some k.batch ≡ option_map (λ (b : StoredBatch). b.name) (find (is_batch m) (stored_batches c.facts))) is
      (∥∥₁_elim known (search props) (λ it. batch_with_id (image c) k it (batches_once k.id)))

  record_named : (n p : ℕ) → k.id ≡ n → k.place ≡ p → Some k.rec ≡ option_map (λ (r : StoredRecord). r.name) (find (is_record_at n p) (stored_records c.facts))
  record_named n p id_is place_is =
      subst (λ (m : ℕ). Some k.rec ≡ option_map (λ (r : StoredRecord). r.name) (find (is_record_at m p) (stored_records c.facts))) id_is
      (subst (λ (m : ℕ). Some k.rec ≡ option_map (λ (r : StoredRecord). r.name) (find (is_record_at k.id m) (stored_records c.facts))) place_is
      (∥∥₁_elim known (search props) (λ it. record_with_place (image c) k it (records_once k.id k.place))))

  pub session_by_known : (id : ℕ) (s : SessionAt) → Some s ≡ option_map session_at (find (is_session id) (stored_sessions c.facts)) → k.id ≡ s.batch → k.place ≡ s.place
      → Some (row_named s k.batch k.rec) ≡ session_in (stored_sessions c.facts) (stored_batches c.facts) (stored_records c.facts) id
  session_by_known id s s_is id_is place_is =
      session_read (stored_sessions c.facts) (stored_batches c.facts) (stored_records c.facts) id s s_is k.batch (batch_named s.batch id_is) k.rec (record_named s.batch s.place id_is place_is)

-- ---- the first waiting record

-- in a batch with a cached record
pub waiting_by_known : (old new : State) (known : Known) (k : KnownRecord) (b : List ℕ) → Knows old known → Contains (known_records known) k → k.batch ≡ b → Looks old new
    → ((c : Contents) → AreSound c → AreNamedApart (fixed (image c))) → ((f : Facts) → Rises record_at place_of (filter (is_waiting_of k.id) (stored_records f)))
    → ((f : Facts) → first_waiting f b ≡ waiting_in (stored_batches f) (stored_records f) b)
    → (result : Result (Option (List ℕ)) Error) → ReadsRows old new result (IsFirstWaiting k.id) → ReadsContents old new result (λ c answer. answer ≡ first_waiting c.facts b)
waiting_by_known old new known k b knows there is looks apart rising law (Err e) as_read = λ clean. tt
waiting_by_known old new known k b knows there is looks apart rising law (Ok name) as_read = λ clean.
    let early : HasCleanDisk old = omega (arith, clean, looks.survives.clean) in
    let s = as_read clean in (
      s.0,
      λ c sound image_is.
          let id : Some k.id ≡ option_map (λ (row : StoredBatch). row.id) (find (is_batch_named b) (stored_batches c.facts)) =
          ∥∥₁_elim (known_in old known knows early s.0 k there (image c) image_is (apart c sound)) (search props)
          (λ it. subst (λ n. Some k.id ≡ option_map (λ (row : StoredBatch). row.id) (find (is_batch_named n) (stored_batches c.facts))) is (id_with_name (image c) k it (apart c sound))) in
          first_waits (stored_batches c.facts) (stored_records c.facts) b k.id id (rising c.facts) name (s.1 (image c) image_is) ∙ sym (law c.facts),
    )

-- ---- a segment

module _ (c : Contents) (k : KnownRecord) (it : IsKnownIn (fixed (image c)) k) (apart : AreNamedApart (fixed (image c))) (a q : ℕ)
    (law : plan_for c.facts k.batch k.rec ≡ plan_in c.facts.products (stored_batches c.facts) (stored_records c.facts) (stored_groupings c.facts) k.batch k.rec) where
  abbrev under : BatchProduct
  under = record { id = k.id; product = k.product }

  row_read : (found : Option SegmentRow) → found ≡ row_in_plan (plan_at c.facts under k.place k.rec) a q → found ≡ segment_row_of c.facts k.batch k.rec a q
  row_read found is =
      let x = record_with_name (image c) k it apart in
      segment_read c.facts k.batch k.rec a q law under (product_with_name (image c) k it apart) x.0 x.1 found (is ∙ ap (λ n. row_in_plan (plan_at c.facts under n k.rec) a q) (sym x.2))

  module _ (rising : Rises grouping_at line_of (filter (is_grouping_at k.id k.place) (stored_groupings c.facts))) where
    pub without_head : None ≡ head_at (known_heads k) a q → None ≡ segment_row_of c.facts k.batch k.rec a q
    without_head none = row_read None (row_without_head c.facts under k.place a q k.rec rising (known_heads k) it.heads none)

    pub with_head : (p : PlacedHead) → Some p ≡ head_at (known_heads k) a q
        → (cs : List CodedAt) → AreSorted coded_line (map coded_at (filter (is_of_segment k.id k.place p.head.aid p.head.rank) (stored_groupings c.facts))) cs
        → Some (row_of_head under p (flat_map (λ (g : CodedAt). g.coded) cs)) ≡ segment_row_of c.facts k.batch k.rec a q
    with_head p is cs coded =
        row_read (Some (row_of_head under p (flat_map (λ (g : CodedAt). g.coded) cs))) (row_with_head c.facts under k.place a q k.rec rising (known_heads k) it.heads p is cs coded)

module _ (k : KnownRecord) (b r : List ℕ) (named : IsNamed b r k) (a q : ℕ) where
  of_names : (f : Facts) → segment_row_of f k.batch k.rec a q ≡ segment_row_of f b r a q
  of_names f = ap (λ n. segment_row_of f n k.rec a q) named.0 ∙ ap (λ n. segment_row_of f b n a q) named.1

  module _ (old : State) (known : Known) (knows : Knows old known) (apart : (c : Contents) → AreSound c → AreNamedApart (fixed (image c))) (answer : Option SegmentRow) where
    -- a segment computed from the cached record is the segment in the contents
    row_given : HasCleanDisk old → IsTrue old.is_open → ((t : Tables) → IsImage t old.now → AreNamedApart (fixed t) → IsAllKnownIn t known → IsKnownIn (fixed t) k)
        → ((c : Contents) → AreSound c → IsImage (image c) old.now → IsKnownIn (fixed (image c)) k → answer ≡ segment_row_of c.facts k.batch k.rec a q) → Shows old (λ c. answer ≡ segment_row_of c.facts b r a q)
    row_given clean live shows as_read = (
      live,
      λ c sound is.
          ∥∥₁_elim (all_known_in old known knows clean live (image c) is) (Coded-set (coded_option the_row.coded) _ _) (λ all. as_read c sound is (shows (image c) is (apart c sound) all))
          ∙ of_names c.facts,
    )

    -- a segment of a cached record
    pub segment_by_known : (new : State) → Looks old new → Contains (known_records known) k → IsTrue old.is_open → HasCleanDisk new
        → ((c : Contents) → AreSound c → (IsTrue old.is_open → IsImage (image c) old.now) → IsKnownIn (fixed (image c)) k → answer ≡ segment_row_of c.facts k.batch k.rec a q)
        → Shows old (λ c. answer ≡ segment_row_of c.facts b r a q)
    segment_by_known new looks there live clean as_read =
        row_given (omega (arith, clean, looks.survives.clean)) live (λ t is each all. All-contains (IsKnownIn (fixed t)) (known_records known) k (all.records each) there) (λ c sound is. as_read c sound (λ _. is))

    -- a segment of a record that was read just before
    pub segment_by_read : (mid new : State) → Looks old mid → Looks mid new → (HasCleanDisk mid → ShowsRows old (λ t. AreNamedApart (fixed t) → IsAllKnownIn t known → IsKnownIn (fixed t) k))
        → (HasCleanDisk new → (c : Contents) → AreSound c → (IsTrue mid.is_open → IsImage (image c) mid.now) → IsKnownIn (fixed (image c)) k → answer ≡ segment_row_of c.facts k.batch k.rec a q)
        → HasCleanDisk new → Shows old (λ c. answer ≡ segment_row_of c.facts b r a q)
    segment_by_read mid new one two shows as_read clean =
        let early : HasCleanDisk mid = omega (arith, clean, two.survives.clean) in
        let s = shows early in
        row_given (omega (arith, early, one.survives.clean)) s.0 s.1 (λ c sound is. as_read clean c sound (λ live. subst (IsImage (image c)) (sym ((one.kept early).now_is live)) is))
