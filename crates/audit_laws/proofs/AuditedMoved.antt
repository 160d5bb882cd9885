-- Rows that pass the audit also pass it in another order, in the tables whose order doesn't matter.
use Rattle.std.proofs.Common.{◌≡◌, ◌≢◌, ◌==◌, ℕ, Bool, false, not, List, get_or, map, inl, inr, sym, ap, ◌∙◌, subst, arith, IsPermutation}
use Rattle.std.specs.Prelude.{AllPairs, IsSome, IsTrue, bytes_eq, count_by, nat_lt, option_map, unwrap_or}
use Rattle.std.specs.List.{enumerate_from, flat_map}
use Rattle.std.proofs.lemmas.Bool.{and_from, and_parts, both_ways, eq-eqb, eqb-true, false_from_ne_true}
use Rattle.std.proofs.lemmas.List.Elements.{All-weaker}
use Rattle.std.proofs.lemmas.List.Sorted.{All-permutation, IsPermutation-map, IsPermutation-sym, IsPermutation-trans, length_permutation}
use Rattle.store_data.specs.declared.row.Product.{Product}
use Rattle.store_data.specs.declared.row.Row.{Row}
use Rattle.store_data.specs.Groups.{first_appearances}
use Rattle.store_data.specs.Sequence.{IsProduct, plan_of}
use Rattle.job_facts.specs.declared.facts.Lot.{Lot}
use Rattle.job_facts.specs.Contents.{Entry, IsEntry, IsMark, Mark, has_mark, is_above, is_of_number, mark_of}
use Rattle.job_facts.specs.Facts.{Batch}
use Rattle.job_facts.specs.Sound.{AreApart, AreBatches, AreLots, AreProducts, IsBatch, IsLot, IsName}
use Rattle.job_facts.specs.States.{is_in, lot_of, product_named, records_of, rows_of, rows_of_record, rows_under}
use Rattle.step_laws.proofs.BlankSums.{apart_once, bytes_eq_either, named_once}
use Rattle.step_laws.proofs.Permuted.{IsPermutation-filter, at_most_one, count_moved, find_moved}
use Rattle.table_rows.specs.After.{new_grouping}
use Rattle.table_rows.specs.Tables.{StoredBatch, StoredBlank, StoredLot, StoredSession, Tables}
use Rattle.image_laws.proofs.OneRecord.{turned}
use Rattle.image_laws.specs.Decided.{batch_of_row, discarded_rows}
use Rattle.row_laws.proofs.RecordRows.{name_alone}
use Rattle.audit_laws.specs.Audited.{IsAudited, IsAuditedBatch, IsAuditedBlank, IsAuditedLot, IsAuditedRecord, IsAuditedSession, file_groupings, file_keys, file_records, file_rows, opened_rows}
use Rattle.audit_laws.proofs.InOrder.{pairs_moved}

-- ---- products, lots and batches

module _ (products others : List Product) (moved : IsPermutation products others) (are : AreProducts products) where
  pub products_moved : AreProducts others
  products_moved = record {
    few = omega (arith, are.few, length_permutation products others moved);
    once = pairs_moved (λ m n. bytes_eq m n ≡ false) turned _ _
        (IsPermutation-map (λ (p : Product). p.code) products others moved) are.once;
    named = All-permutation (λ (p : Product). IsName p.code) products others moved are.named;
    ranged = All-permutation IsProduct products others moved are.ranged;
  }

  pub product_alike : (n : List ℕ) → product_named products n ≡ product_named others n
  product_alike n =
      find_moved (λ (p : Product). bytes_eq p.code n) products others moved
      (at_most_one (λ (p : Product). bytes_eq p.code n) products (named_once (λ (p : Product). p.code) products n are.once))

  pub rows_alike : (b : Batch) → rows_of products b ≡ rows_of others b
  unfolding rows_of
  rows_alike b = ap (λ o. rows_under o b.raw) (product_alike b.product)

  pub records_alike : (b : Batch) → records_of products b ≡ records_of others b
  unfolding records_of
  records_alike b = ap (λ rows. first_appearances (map (λ (row : Row). row.rec) rows)) (rows_alike b)

  pub batches_kept : (batches : List Batch) → AreBatches products batches → AreBatches others batches
  batches_kept batches is = record {
    few = is.few;
    once = is.once;
    each = All-weaker (IsBatch products) (IsBatch others) (λ b of. record {
      named = of.named;
      product = of.product;
      there = sym (product_alike b.product) ∙ of.there;
      rows = of.rows;
      read = of.read;
      ranged = of.ranged;
    }) batches is.each;
  }

  module _ (lots those : List Lot) (lots_same : IsPermutation lots those) (these : AreLots products lots) where
    apart_turned : (l m : Lot) → AreApart l m → AreApart m l
    apart_turned l m (inl low) = inr low
    apart_turned l m (inr high) = inl high

    lot_kept : (l : Lot) → IsLot products l → IsLot others l
    lot_kept l is = record {
      named = is.named;
      product = subst (λ o. IsSome o) (product_alike l.product) is.product;
      least = is.least;
      most = is.most;
      range = is.range;
    }

    pub lots_moved : AreLots others those
    lots_moved = record {
      few = omega (arith, these.few, length_permutation lots those lots_same);
      once = pairs_moved (λ m n. bytes_eq m n ≡ false) turned _ _ (IsPermutation-map (λ (l : Lot). l.name) lots those lots_same) these.once;
      each = All-permutation (IsLot others) lots those lots_same (All-weaker (IsLot products) (IsLot others) lot_kept lots these.each);
      apart = pairs_moved AreApart apart_turned lots those lots_same these.apart;
    }

    pub lot_alike : (serial : ℕ) → lot_of lots serial ≡ lot_of those serial
    lot_alike serial =
        find_moved (is_in serial) lots those lots_same
        (at_most_one (is_in serial) lots
        (λ i j d before within. apart_once serial (get_or lots i d) (get_or lots j d) (these.apart i j d before within)))

-- ---- kept replies and marks

number_turned : (d e : Entry) → is_of_number d e ≡ false → is_of_number e d ≡ false
number_turned d e differ = false_from_ne_true (is_of_number e d) (λ hit.
    let parts = and_parts (bytes_eq e.client d.client) (e.number == d.number) hit in
    both_ways (is_of_number d e) differ (and_from (bytes_eq d.client e.client) (d.number == e.number)
    (bytes_eq_either d.client e.client ∙ parts.0)
    (eq-eqb d.number e.number (sym (eqb-true e.number d.number parts.1)))))

module _ (marks others : List Mark) (moved : IsPermutation marks others)
    (once : AllPairs (λ (m n : Mark). bytes_eq m.client n.client ≡ false) marks) where
  pub mark_alike : (client : List ℕ) → mark_of marks client ≡ mark_of others client
  mark_alike client =
      ap (λ o. unwrap_or (option_map (λ (m : Mark). m.upto) o) 0)
      (find_moved (has_mark client) marks others moved
      (at_most_one (has_mark client) marks (λ i j d before within. name_alone client _ _ (once i j d before within))))

-- ---- rows

module _ (u : Tables) (is : IsAudited u)
    (products : List Product) (lots : List StoredLot) (blanks : List StoredBlank) (replies : List Entry) (marks : List Mark)
    (products_same : IsPermutation u.products products) (lots_same : IsPermutation u.lots lots)
    (blanks_same : IsPermutation u.blanks blanks)
    (replies_same : IsPermutation u.replies replies) (marks_same : IsPermutation u.marks marks) where
  abbrev pub with_moved : Tables
  with_moved = record u { products = products; lots = lots; blanks = blanks; replies = replies; marks = marks }

  abbrev own_lots : List Lot
  own_lots = map (λ (l : StoredLot). l.lot) u.lots

  abbrev moved_lots : List Lot
  moved_lots = map (λ (l : StoredLot). l.lot) lots

  lots_are : IsPermutation own_lots moved_lots
  lots_are = IsPermutation-map (λ (l : StoredLot). l.lot) u.lots lots lots_same

  file_alike : (b : StoredBatch) → file_rows u b ≡ file_rows with_moved b
  file_alike b = rows_alike u.products products products_same is.products (batch_of_row b)

  names_alike : (b : StoredBatch) → file_records u b ≡ file_records with_moved b
  names_alike b = records_alike u.products products products_same is.products (batch_of_row b)

  keys_alike : (b : StoredBatch) → file_keys u b ≡ file_keys with_moved b
  keys_alike b = ap (λ names. map (λ (e : ℕ × List ℕ). (b.id, e)) (enumerate_from 0 names)) (names_alike b)

  groupings_alike : (b : StoredBatch) → file_groupings u b ≡ file_groupings with_moved b
  groupings_alike b = λ i. map (new_grouping b.id (names_alike b i)) (enumerate_from 2 (file_alike b i))

  found_lot : (serial : ℕ) → lot_of own_lots serial ≡ lot_of moved_lots serial
  found_lot = lot_alike u.products products products_same is.products own_lots moved_lots lots_are is.lots

  session_moved : (s : StoredSession) → IsAuditedSession u s → IsAuditedSession with_moved s
  session_moved s of = record {
    machine = of.machine;
    batch = of.batch;
    batch_is = of.batch_is;
    rec = of.rec;
    rec_is = of.rec_is;
    product = of.product;
    product_is = sym (product_alike u.products products products_same is.products of.batch.product) ∙ of.product_is;
    plan = of.plan;
    plan_is = of.plan_is ∙ ap (λ rows. plan_of of.product (rows_of_record rows of.rec.name)) (file_alike of.batch);
    words = of.words;
    count = of.count;
    state = of.state;
    cursor = of.cursor;
    lot = of.lot;
    lot_is = sym (found_lot s.serial) ∙ of.lot_is;
    fits = of.fits;
  }

  discarded_alike : (p : StoredBlank → Bool) → count_by p (discarded_rows u.blanks) ≡ count_by p (discarded_rows blanks)
  discarded_alike p = count_moved p _ _ (IsPermutation-filter (λ (b : StoredBlank). b.discarded) u.blanks blanks blanks_same)

  abbrev serial : StoredBlank → ℕ
  serial b = b.serial

  opened_same : IsPermutation (map serial (opened_rows blanks)) (map serial (opened_rows u.blanks))
  opened_same =
      IsPermutation-map serial _ _
      (IsPermutation-filter (λ (b : StoredBlank). not b.discarded) blanks u.blanks (IsPermutation-sym _ _ blanks_same))

  above_alike : (e : Entry) → is_above u.marks e ≡ is_above marks e
  above_alike e = ap (λ n. nat_lt n e.number) (mark_alike u.marks marks marks_same is.marked_once e.client)

  pub audited_moved : IsAudited with_moved
  audited_moved = record {
    products = products_moved u.products products products_same is.products;
    lots = lots_moved u.products products products_same is.products own_lots moved_lots lots_are is.lots;
    batches = batches_kept u.products products products_same is.products (map batch_of_row u.batches) is.batches;
    batch_ids = is.batch_ids;
    records = is.records ∙ (λ i. flat_map (λ b. keys_alike b i) u.batches);
    groupings = is.groupings ∙ (λ i. flat_map (λ b. groupings_alike b i) u.batches);
    session_ids = is.session_ids;
    words = is.words;
    each_session = All-weaker (IsAuditedSession u) (IsAuditedSession with_moved) session_moved u.sessions is.each_session;
    machines = is.machines;
    each_record = All-weaker (IsAuditedRecord u) (IsAuditedRecord with_moved) (λ r of. record {
      sound = of.sound;
      state = of.state;
      spoiled = of.spoiled;
    }) u.records is.each_record;
    remakes = is.remakes;
    each_batch = All-weaker (IsAuditedBatch u) (IsAuditedBatch with_moved) (λ b of. record {
      waiting = of.waiting;
      running = of.running;
      failed = of.failed;
      withdrawn = of.withdrawn;
      good = of.good;
      sessions = of.sessions;
      spoiled = of.spoiled;
      closed = of.closed;
    }) u.batches is.each_batch;
    each_lot = All-permutation (IsAuditedLot with_moved) u.lots lots lots_same
        (All-weaker (IsAuditedLot u) (IsAuditedLot with_moved)
        (λ l of. of ∙ discarded_alike (λ (b : StoredBlank). is_in b.serial l.lot)) u.lots is.each_lot);
    blanks_once = pairs_moved (λ (b c : StoredBlank). b.serial ≢ c.serial) (λ b c differ e. differ (sym e))
        u.blanks blanks blanks_same is.blanks_once;
    each_blank = All-permutation (IsAuditedBlank with_moved) u.blanks blanks blanks_same
        (All-weaker (IsAuditedBlank u) (IsAuditedBlank with_moved) (λ b of. record {
          lot = of.lot;
          lot_is = sym (found_lot b.serial) ∙ of.lot_is;
          named = of.named;
        }) u.blanks is.each_blank);
    opened = IsPermutation-trans _ _ _ opened_same is.opened;
    kept = All-permutation IsEntry u.replies replies replies_same is.kept;
    kept_once = pairs_moved (λ (d e : Entry). is_of_number d e ≡ false) number_turned u.replies replies replies_same is.kept_once;
    marks = All-permutation IsMark u.marks marks marks_same is.marks;
    marked_once = pairs_moved (λ (m n : Mark). bytes_eq m.client n.client ≡ false) (λ m n. turned m.client n.client)
        u.marks marks marks_same is.marked_once;
    above = All-permutation (λ (e : Entry). IsTrue (is_above marks e)) u.replies replies replies_same
        (All-weaker (λ (e : Entry). IsTrue (is_above u.marks e)) (λ (e : Entry). IsTrue (is_above marks e))
        (λ e up. subst (λ t. IsTrue t) (above_alike e) up) u.replies is.above);
  }
