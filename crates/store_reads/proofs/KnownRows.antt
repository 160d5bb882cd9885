-- Lemmas about cached records in rows: the rows may be in any order, and look-ups find the records.
use Rattle.std.proofs.Common.{◌≡◌, ◌==◌, ◌&&◌, ℕ, zero, suc, ◌<◌, Bool, true, false, inl, inr, List, [], ◌∷◌, All, Contains, length, get_or, map, Option, Some, None, IfSome, IsTrue, refl, sym, ap, subst, ◌∙◌, arith}
use Rattle.std.specs.Prelude.{AllPairs, bytes_eq, filter, find, option_and_then, option_map}
use Rattle.std.specs.List.Sorted.{IsPermutation}
use Rattle.std.proofs.Math.Logic.{∥∥₁_map}
use Rattle.std.proofs.lemmas.Bool.{and_from, and_parts, both_ways, cases_Bool, cond-false, cond-true}
use Rattle.std.proofs.lemmas.Bool.Decides.{nat_tests}
use Rattle.std.proofs.lemmas.List.{get_or-map, length-map}
use Rattle.std.proofs.lemmas.List.Elements.{All-cons, All-contains, All-contains_itself, All-filter, All-head, All-nil, All-tail, All-weaker, filter_passes}
use Rattle.std.proofs.lemmas.List.Sorted.{All-permutation, Contains-permutation, IsPermutation-map, IsPermutation-sym, IsPermutation-trans}
use Rattle.std.proofs.lemmas.Map.Keys.{IsDistinct-IsPermutation, IsDistinct-from_apart, apart_from_distinct}
use Rattle.sqlite.specs.State.{HasCleanDisk, State}
use Rattle.store_data.specs.declared.row.Product.{Product}
use Rattle.store_data.proofs.GroupLemmas.{bytes_eq-same, same-bytes_eq}
use Rattle.job_facts.specs.Contents.{Contents}
use Rattle.job_facts.specs.Sound.{AreNamedOnce}
use Rattle.job_facts.specs.States.{product_named}
use Rattle.job_facts.proofs.Lists.{find-All}
use Rattle.step_laws.proofs.BlankSums.{bytes_eq_either, named_once}
use Rattle.step_laws.proofs.Permuted.{IsPermutation-filter}
use Rattle.sql_base.proofs.Selecting.{map_map}
use Rattle.table_rows.specs.Keys.{is_batch, is_batch_named, is_record_at, is_record_named, is_waiting_of}
use Rattle.table_rows.specs.Tables.{HaveSameRows, PassesOnce, StoredBatch, StoredRecord, Tables, totals_of}
use Rattle.table_rows.proofs.Found.{find_passes}
use Rattle.image_laws.specs.Image.{image, stored_batches, stored_records}
use Rattle.row_laws.proofs.Finding.{AllPairs-from_map, AllPairs-map, find-map}
use Rattle.row_reads.specs.declared.records.RecordAt.{RecordAt}
use Rattle.row_reads.specs.CardDecoding.{grouping_at, place_of, record_at}
use Rattle.row_reads.specs.Extremes.{IsLeastBy}
use Rattle.sql_rows.specs.Image.{IsImage}
use Rattle.sql_rows.proofs.OneImage.{one_image}
use Rattle.store_reads.specs.declared.known.BatchCounters.{BatchCounters}
use Rattle.store_reads.specs.declared.known.Known.{Known}
use Rattle.store_reads.specs.declared.known.KnownRecord.{KnownRecord}
use Rattle.store_reads.specs.declared.known.StandingRecord.{StandingRecord}
use Rattle.store_reads.specs.Counted.{AreCountersIn}
use Rattle.store_reads.specs.Fixed.{AreNamedApart, Fixed, FixedBatch, FixedRecord, fixed, fixed_batch, fixed_record, is_named, is_named_in}
use Rattle.store_reads.specs.Known.{AreHeadsAt, IsAllKnownIn, IsKnownIn, IsStandingOf, Knows, IsStandingIn, known_counters, known_heads, known_records, standing_of, standing_record}
use Rattle.store_reads.specs.declared.plans.SegmentHead.{SegmentHead}
use Rattle.store_reads.specs.declared.segments.BatchProduct.{BatchProduct}
use Rattle.store_reads.specs.Segments.{product_in, product_under}
use Rattle.store_reads.proofs.Found.{found_some}

-- ---- lists in a different order

apart_moved : {X : Type 0} (alike : X → X → Bool) → ((x y : X) → alike x y ≡ alike y x) → (xs ys : List X) → IsPermutation xs ys → AllPairs (λ x y. alike x y ≡ false) xs → AllPairs (λ x y. alike x y ≡ false) ys
apart_moved alike flips xs ys moved apart = λ i j d. apart_from_distinct alike ys i j d (IsDistinct-IsPermutation alike flips xs ys moved (IsDistinct-from_apart alike xs apart))

and_flips : (a b : Bool) → (a && b) ≡ (b && a)
and_flips true true = refl
and_flips true false = refl
and_flips false true = refl
and_flips false false = refl

not_both : (a b : Bool) → (a ≡ true → b ≡ false) → (a && b) ≡ false
not_both true b other = other refl
not_both false b other = refl

other_not : (a b : Bool) → (a && b) ≡ false → a ≡ true → b ≡ false
other_not true b apart hit = apart
other_not false b apart hit = absurd (cc)

once_moved : {X : Type 0} (p : X → Bool) (xs ys : List X) → IsPermutation xs ys → PassesOnce p xs → PassesOnce p ys
once_moved p xs ys moved once = λ i j d before within.
    other_not (p (get_or ys i d)) (p (get_or ys j d))
    (apart_moved (λ x y. p x && p y) (λ x y. and_flips (p x) (p y)) xs ys moved (λ i j d before within. not_both (p (get_or xs i d)) (p (get_or xs j d)) (once i j d before within)) i j d before within)

module _ (t u : Tables) (same : HaveSameRows t u) where
  pub names_moved : AreNamedApart (fixed t) → AreNamedApart (fixed u)
  names_moved apart = record {
    products = apart_moved bytes_eq bytes_eq_either _ _ (IsPermutation-map (λ (p : Product). p.code) _ _ same.products) apart.products;
    batches = λ n. once_moved (is_named n) _ _ (IsPermutation-map fixed_batch _ _ same.batches) (apart.batches n);
    records = λ id n. once_moved (is_named_in id n) _ _ (IsPermutation-map fixed_record _ _ same.records) (apart.records id n);
  }

  pub known_moved : (k : KnownRecord) → IsKnownIn (fixed t) k → IsKnownIn (fixed u) k
  known_moved k it = record {
    batch = Contains-permutation _ _ _ (IsPermutation-map fixed_batch _ _ same.batches) it.batch;
    product = Contains-permutation _ _ _ same.products it.product;
    record_there = Contains-permutation _ _ _ (IsPermutation-map fixed_record _ _ same.records) it.record_there;
    heads = (
      it.heads.0,
      (IsPermutation-trans _ _ _ (IsPermutation-sym _ _ (IsPermutation-map grouping_at _ _ (IsPermutation-filter _ _ _ same.groupings))) it.heads.1.0, it.heads.1.1),
      it.heads.2,
    );
  }

  standing_moved : (o : Option StandingRecord) → IfSome o (IsStandingIn t) → IfSome o (IsStandingIn u)
  standing_moved None there = tt
  standing_moved (Some s) there = Contains-permutation _ _ _ (IsPermutation-map standing_of _ _ same.records) there

  counted_moved : (counters : BatchCounters) → AreCountersIn t counters → AreCountersIn u counters
  counted_moved counters has = All-permutation (λ (b : StoredBatch). b.id ≡ counters.batch → totals_of b ≡ counters.totals) t.batches u.batches same.batches has

-- all cached entries agree with any rows that the database has
pub all_known_in : (s : State) (known : Known) → Knows s known → HasCleanDisk s → IsTrue s.is_open → (t : Tables) → IsImage t s.now → ∥ IsAllKnownIn t known ∥₁
all_known_in s known knows clean live t is =
    ∥∥₁_map (knows clean live).rows (λ it.
    let there : HaveSameRows it.0 t = one_image it.0 t s.now it.1 is in
    let back : HaveSameRows t it.0 = one_image t it.0 s.now is it.1 in
    record {
      records = λ apart. All-weaker (IsKnownIn (fixed it.0)) (IsKnownIn (fixed t)) (known_moved it.0 t there) (known_records known) (it.2.records (names_moved t it.0 back apart));
      standing = λ apart. standing_moved it.0 t there (standing_record known) (it.2.standing (names_moved t it.0 back apart));
      counted = All-weaker (AreCountersIn it.0) (AreCountersIn t) (counted_moved it.0 t there) (known_counters known) it.2.counted;
    })

-- each cached record agrees with them
pub known_in : (s : State) (known : Known) → Knows s known → HasCleanDisk s → IsTrue s.is_open → (k : KnownRecord) → Contains (known_records known) k
    → (t : Tables) → IsImage t s.now → AreNamedApart (fixed t) → ∥ IsKnownIn (fixed t) k ∥₁
known_in s known knows clean live k there t is apart =
    ∥∥₁_map (all_known_in s known knows clean live t is) (λ it. All-contains (IsKnownIn (fixed t)) (known_records known) k (it.records apart) there)

-- the names of batches and of records of a batch are unique in sound contents
pub names_apart : (c : Contents) → AreNamedOnce (map (λ (p : Product). p.code) c.facts.products) → ((n : List ℕ) → PassesOnce (is_batch_named n) (stored_batches c.facts))
    → ((id : ℕ) (n : List ℕ) → PassesOnce (is_record_named id n) (stored_records c.facts)) → AreNamedApart (fixed (image c))
names_apart c products batches records = record {
  products = products;
  batches = λ n. AllPairs-map (λ v w. is_named n v ≡ true → is_named n w ≡ false) fixed_batch (stored_batches c.facts) (batches n);
  records = λ id n. AllPairs-map (λ v w. is_named_in id n v ≡ true → is_named_in id n w ≡ false) fixed_record (stored_records c.facts) (records id n);
}

-- no two rows therefore have the same name
module _ (t : Tables) (apart : AreNamedApart (fixed t)) where
  pub batches_once : (n : List ℕ) → PassesOnce (is_batch_named n) t.batches
  batches_once n = AllPairs-from_map (λ v w. is_named n v ≡ true → is_named n w ≡ false) fixed_batch t.batches (apart.batches n)

  pub records_once : (id : ℕ) (n : List ℕ) → PassesOnce (is_record_named id n) t.records
  records_once id n = AllPairs-from_map (λ v w. is_named_in id n v ≡ true → is_named_in id n w ≡ false) fixed_record t.records (apart.records id n)

-- ---- look-ups

-- an element that satisfies `p` is found if no other element does
found_once : {X : Type 0} (p : X → Bool) (xs : List X) (x : X) → PassesOnce p xs → Contains xs x → p x ≡ true → find p xs ≡ Some x
found_once {X} p xs x once there hit = at xs there.0 there.1 there.2 once
  where
    at : (ys : List X) (k : ℕ) → k < length ys → get_or ys k x ≡ x → PassesOnce p ys → find p ys ≡ Some x
    at [] k within is once = absurd (omega (arith, within))
    at (y ∷ ys) zero within is once = cond-true (p y) (Some y) (find p ys) (ap p is ∙ hit) ∙ ap Some is
    at (y ∷ ys) (suc k) within is once = elim (cases_Bool (p y)) [
      | inl here ↦ absurd (both_ways (p x) (sym (ap p is) ∙ once 0 (suc k) x (omega arith) within here) hit)
      | inr miss ↦ cond-false (p y) (Some y) (find p ys) miss ∙ at ys k (omega (arith, within)) is (λ i j d before later. once (suc i) (suc j) d (omega (arith, before)) (omega (arith, later)))
    ]

-- an element is found by a test on its fixed part
found_by_part : {X Y : Type 0} (part : X → Y) (p : Y → Bool) (xs : List X) (y : Y) → Contains (map part xs) y → PassesOnce (λ x. p (part x)) xs → p y ≡ true
    → (x : X) × (find (λ x. p (part x)) xs ≡ Some x) × (y ≡ part x)
found_by_part part p xs y there once hit =
    found_some part (find (λ x. p (part x)) xs) y
    (sym (found_once p (map part xs) y (AllPairs-map (λ v w. p v ≡ true → p w ≡ false) part xs once) there hit) ∙ find-map p part xs)

same_number : (n : ℕ) → (n == n) ≡ true
same_number n = grind (arith, nat_tests)

module _ (t : Tables) (k : KnownRecord) (it : IsKnownIn (fixed t) k) where
  abbrev batch_part : FixedBatch
  batch_part = record { id = k.id; name = k.batch; product = k.product.code }

  abbrev record_part : FixedRecord
  record_part = record { batch = k.id; place = k.place; name = k.rec }

  pub batch_with_id : PassesOnce (is_batch k.id) t.batches → Some k.batch ≡ option_map (λ (b : StoredBatch). b.name) (find (is_batch k.id) t.batches)
  batch_with_id once =
      let b = found_by_part fixed_batch (λ (b : FixedBatch). b.id == k.id) t.batches batch_part it.batch once (same_number k.id) in
      ap (λ (e : FixedBatch). Some e.name) b.2 ∙ sym (ap (option_map (λ (b : StoredBatch). b.name)) b.1)

  pub record_with_place : PassesOnce (is_record_at k.id k.place) t.records → Some k.rec ≡ option_map (λ (r : StoredRecord). r.name) (find (is_record_at k.id k.place) t.records)
  record_with_place once =
      let r = found_by_part fixed_record (λ (r : FixedRecord). (r.batch == k.id) && (r.place == k.place)) t.records record_part it.record_there once
      (and_from (k.id == k.id) (k.place == k.place) (same_number k.id) (same_number k.place)) in
      ap (λ (e : FixedRecord). Some e.name) r.2 ∙ sym (ap (option_map (λ (r : StoredRecord). r.name)) r.1)

  module _ (apart : AreNamedApart (fixed t)) where
    pub product_with_name : Some (let e : BatchProduct = record { id = k.id; product = k.product } in e) ≡ product_in t.products t.batches k.batch
    product_with_name =
        let b = found_by_part fixed_batch (is_named k.batch) t.batches batch_part it.batch (batches_once t apart k.batch) (bytes_eq-same k.batch) in
        let p : product_named t.products k.product.code ≡ Some k.product =
        found_once (λ (p : Product). bytes_eq p.code k.product.code) t.products k.product (named_once (λ (p : Product). p.code) t.products k.product.code apart.products) it.product (bytes_eq-same k.product.code) in
        sym (ap (option_and_then (product_under t.products)) b.1
        ∙ sym (ap (λ (e : FixedBatch). option_map (λ (p : Product). let e : BatchProduct = record { id = e.id; product = p } in e) (product_named t.products e.product)) b.2)
        ∙ ap (option_map (λ (p : Product). let e : BatchProduct = record { id = k.id; product = p } in e)) p)

    pub id_with_name : Some k.id ≡ option_map (λ (b : StoredBatch). b.id) (find (is_batch_named k.batch) t.batches)
    id_with_name =
        let b = found_by_part fixed_batch (is_named k.batch) t.batches batch_part it.batch (batches_once t apart k.batch) (bytes_eq-same k.batch) in
        ap (λ (e : FixedBatch). Some e.id) b.2 ∙ sym (ap (option_map (λ (b : StoredBatch). b.id)) b.1)

    pub record_with_name : (x : RecordAt) × (Some x ≡ option_map record_at (find (is_record_named k.id k.rec) t.records)) × (x.place ≡ k.place)
    record_with_name =
        let r = found_by_part fixed_record (is_named_in k.id k.rec) t.records record_part it.record_there (records_once t apart k.id k.rec)
        (and_from (k.id == k.id) (bytes_eq k.rec k.rec) (same_number k.id) (bytes_eq-same k.rec)) in
        (record_at r.0, sym (ap (option_map record_at) r.1), sym (ap (λ (e : FixedRecord). e.place) r.2))

-- ---- records that were read

in_map : {X Y : Type 0} (part : X → Y) (xs : List X) (x : X) (y : Y) → y ≡ part x → Contains xs x → Contains (map part xs) y
in_map part xs x y is there =
    (there.0, omega (arith, there.1, length-map xs part), get_or-map part xs there.0 x y there.1 ∙ ap part there.2 ∙ sym is)

pub found_there : {X : Type 0} (p : X → Bool) (xs : List X) (x : X) → find p xs ≡ Some x → Contains xs x
found_there p xs x is = find-All p (Contains xs) xs x (All-contains_itself xs) is

two_steps : {X Y : Type 0} (f : X → Option Y) (o : Option X) (y : Y) → Some y ≡ option_and_then f o → (x : X) × (o ≡ Some x) × (Some y ≡ f x)
two_steps f None y is = absurd (cc)
two_steps f (Some x) y is = (x, refl, is)

same_batch_part : (i j : ℕ) (m n p q : List ℕ) → i ≡ j → m ≡ n → p ≡ q → (let x : FixedBatch = record { id = i; name = m; product = p } in x) ≡ (let y : FixedBatch = record { id = j; name = n; product = q } in y)
same_batch_part i j m n p q one two three = rw (one, two, three) refl

same_record_part : (i j p q : ℕ) (m n : List ℕ) → i ≡ j → p ≡ q → m ≡ n → (let x : FixedRecord = record { batch = i; place = p; name = m } in x) ≡ (let y : FixedRecord = record { batch = j; place = q; name = n } in y)
same_record_part i j p q m n one two three = rw (one, two, three) refl

-- replaces the batch id, the position and the segments by equal ones
heads_moved : (x : Fixed) (i j p q : ℕ) (hs ks : List (List SegmentHead)) → AreHeadsAt x i p hs → j ≡ i → q ≡ p → ks ≡ hs → AreHeadsAt x j q ks
heads_moved x i j p q hs ks heads id_is place_is same =
    subst (λ n. AreHeadsAt x n q ks) (sym id_is) (subst (λ n. AreHeadsAt x i n ks) (sym place_is) (subst (AreHeadsAt x i p) (sym same) heads))

pub read_known : (t : Tables) (k : KnownRecord) (e : BatchProduct) → Some e ≡ product_in t.products t.batches k.batch → (x : RecordAt) → Some x ≡ option_map record_at (find (is_record_named e.id k.rec) t.records)
    → AreHeadsAt (fixed t) e.id x.place (known_heads k) → k.id ≡ e.id → k.product ≡ e.product → k.place ≡ x.place → IsKnownIn (fixed t) k
read_known t k e e_is x x_is heads id_is product_is place_is =
    let b = two_steps (product_under t.products) (find (is_batch_named k.batch) t.batches) e e_is in
    let p = found_some (λ (p : Product). let e : BatchProduct = record { id = b.0.id; product = p } in e) (product_named t.products b.0.product) e b.2 in
    let r = found_some record_at (find (is_record_named e.id k.rec) t.records) x x_is in
    let named : b.0.name ≡ k.batch = same-bytes_eq b.0.name k.batch (find_passes (is_batch_named k.batch) t.batches b.0 b.1) in
    let code : p.0.code ≡ b.0.product = same-bytes_eq p.0.code b.0.product (find_passes (λ (q : Product). bytes_eq q.code b.0.product) t.products p.0 p.1) in
    let both = and_parts (r.0.batch == e.id) (bytes_eq r.0.name k.rec) (find_passes (is_record_named e.id k.rec) t.records r.0 r.1) in
    let batch : r.0.batch ≡ e.id = grind (arith, nat_tests, both.0) in
    let id : k.id ≡ b.0.id = id_is ∙ ap (λ (e : BatchProduct). e.id) p.2 in
    let product : k.product ≡ p.0 = product_is ∙ ap (λ (e : BatchProduct). e.product) p.2 in
    let place : k.place ≡ r.0.place = place_is ∙ ap (λ (x : RecordAt). x.place) r.2 in
    record {
      batch = in_map fixed_batch t.batches b.0 _ (same_batch_part _ _ _ _ _ _ id (sym named) (ap (λ (p : Product). p.code) product ∙ code)) (found_there (is_batch_named k.batch) t.batches b.0 b.1);
      product = subst (Contains t.products) (sym product) (found_there (λ (q : Product). bytes_eq q.code b.0.product) t.products p.0 p.1);
      record_there = in_map fixed_record t.records r.0 _ (same_record_part _ _ _ _ _ _ (id_is ∙ sym batch) place (sym (same-bytes_eq r.0.name k.rec both.1))) (found_there (is_record_named e.id k.rec) t.records r.0 r.1);
      heads = heads_moved (fixed t) e.id k.id x.place k.place (known_heads k) (known_heads k) heads id_is place_is refl;
    }

-- ---- states of records

-- the cached state is the one that a look-up by name finds
pub standing_told : (t : Tables) (known : Known) → AreNamedApart (fixed t) → IsAllKnownIn t known → (id : ℕ) (n : List ℕ) (card : RecordAt) → IsStandingOf known id n card
    → Some card ≡ option_map record_at (find (is_record_named id n) t.records)
standing_told t known apart all id n card is =
    subst (λ m. Some card ≡ option_map record_at (find (is_record_named id m) t.records)) is.1 (
    let s : StandingRecord = record { batch = id; card = card } in
    let r = found_by_part standing_of (λ (x : StandingRecord). (x.batch == id) && bytes_eq x.card.name card.name) t.records s (subst (λ o. IfSome o (IsStandingIn t)) is.0 (all.standing apart))
    (records_once t apart id card.name) (and_from (id == id) (bytes_eq card.name card.name) (same_number id) (bytes_eq-same card.name)) in
    ap (λ (x : StandingRecord). Some x.card) r.2 ∙ sym (ap (option_map record_at) r.1))

-- the fixed columns of the record
stands_there : (t : Tables) (id : ℕ) (card : RecordAt) → IsStandingIn t (let s : StandingRecord = record { batch = id; card = card } in s)
    → Contains (map fixed_record t.records) (let r : FixedRecord = record { batch = id; place = card.place; name = card.name } in r)
stands_there t id card there =
    let part : StandingRecord → FixedRecord = λ s. record { batch = s.batch; place = s.card.place; name = s.card.name } in
    subst (λ xs. Contains xs (let r : FixedRecord = record { batch = id; place = card.place; name = card.name } in r)) (map_map part standing_of t.records) (in_map part (map standing_of t.records) _ _ refl there)

-- a record in the batch of a cached record, from its cached state
pub read_beside : (t : Tables) (known : Known) → AreNamedApart (fixed t) → IsAllKnownIn t known → (o k : KnownRecord) → Contains (known_records known) o → (n : List ℕ) (card : RecordAt) → IsStandingOf known o.id n card
    → (heads : List (List SegmentHead)) → AreHeadsAt (fixed t) o.id card.place heads → known_heads k ≡ heads
    → k.id ≡ o.id → k.batch ≡ o.batch → k.product ≡ o.product → k.place ≡ card.place → k.rec ≡ n → IsKnownIn (fixed t) k
read_beside t known apart all o k there n card is heads are same id_is batch_is product_is place_is rec_is =
    let it = All-contains (IsKnownIn (fixed t)) (known_records known) o (all.records apart) there in
    let stands : IsStandingIn t (let s : StandingRecord = record { batch = o.id; card = card } in s) = subst (λ s. IfSome s (IsStandingIn t)) is.0 (all.standing apart) in
    record {
      batch = subst (Contains (map fixed_batch t.batches)) (same_batch_part _ _ _ _ _ _ (sym id_is) (sym batch_is) (sym (ap (λ (p : Product). p.code) product_is))) it.batch;
      product = subst (Contains t.products) (sym product_is) it.product;
      record_there = subst (Contains (map fixed_record t.records)) (same_record_part _ _ _ _ _ _ (sym id_is) (sym place_is) (is.1 ∙ sym rec_is)) (stands_there t o.id card stands);
      heads = heads_moved (fixed t) o.id k.id card.place k.place heads (known_heads k) are id_is place_is same;
    }

-- ---- a record whose state was read

module _ (id : ℕ) (all : List StoredRecord) where
  abbrev IsThere : RecordAt → Type 0
  IsThere card = Contains (map standing_of all) (record { batch = id; card = card })

  stands_of : (x : StoredRecord) → (x.batch == id) ≡ true → Contains all x → IsThere (record_at x)
  stands_of x hit there =
      let batch : x.batch ≡ id = grind (arith, nat_tests, hit) in
      in_map standing_of all x _ (ap (λ (n : ℕ). let s : StandingRecord = record { batch = n; card = record_at x } in s) (sym batch)) there

  each_there : (xs : List StoredRecord) → All (λ x. is_waiting_of id x ≡ true) xs → All (Contains all) xs → All IsThere (map record_at xs)
  each_there [] waits there = All-nil IsThere
  each_there (x ∷ xs) waits there =
      let both = and_parts (x.batch == id) _ (All-head (λ y. is_waiting_of id y ≡ true) x xs waits) in
      All-cons IsThere (record_at x) (map record_at xs) (stands_of x both.0 (All-head (Contains all) x xs there))
      (each_there xs (All-tail (λ y. is_waiting_of id y ≡ true) x xs waits) (All-tail (Contains all) x xs there))

-- the first waiting record
pub waiting_stands : (t : Tables) (id : ℕ) (card : RecordAt) → IsLeastBy place_of (map record_at (filter (is_waiting_of id) t.records)) (Some card)
    → IsStandingIn t (let s : StandingRecord = record { batch = id; card = card } in s)
waiting_stands t id card least =
    All-contains (IsThere id t.records) (map record_at (filter (is_waiting_of id) t.records)) card
    (each_there id t.records (filter (is_waiting_of id) t.records) (filter_passes (is_waiting_of id) t.records) (All-filter (is_waiting_of id) (Contains t.records) t.records (All-contains_itself t.records)))
    least.0

-- the record with a name
pub named_stands : (t : Tables) (id : ℕ) (n : List ℕ) (card : RecordAt) → Some card ≡ option_map record_at (find (is_record_named id n) t.records)
    → IsStandingIn t (let s : StandingRecord = record { batch = id; card = card } in s)
named_stands t id n card card_is =
    let r = found_some record_at (find (is_record_named id n) t.records) card card_is in
    let both = and_parts (r.0.batch == id) (bytes_eq r.0.name n) (find_passes (is_record_named id n) t.records r.0 r.1) in
    subst (IsThere id t.records) (sym r.2) (stands_of id t.records r.0 both.0 (found_there (is_record_named id n) t.records r.0 r.1))
