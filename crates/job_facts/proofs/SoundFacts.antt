-- Sound facts are sound after a change that isn't about sessions.
use Rattle.std.proofs.Common.{◌≡◌, ◌≢◌, ℕ, ◌+◌, ◌^◌, ◌<◌, ◌≤◌, ltb, eqb, Bool, true, false, cond, ◌||◌, ◌&&◌, List, [], ◌∷◌, ◌++◌, length, map, All, Option, Some, None, Ok, refl, sym, ap, ◌∙◌, subst, arith, inl, inr, append_assoc}
use Rattle.std.specs.Prelude.{AllPairs, IsSome, IsTrue, bytes_eq, count_by, filter, is_some, option_and_then, option_map}
use Rattle.std.specs.List.{list_all, list_any}
use Rattle.std.proofs.Math.Bool.{or-false}
use Rattle.std.proofs.lemmas.Bool.{and_cases, and_left, both_ways, cases_Bool, false≢true, ltb-false, ltb-true, or_parts, and_parts, eqb-false}
use Rattle.std.proofs.lemmas.List.{length_push}
use Rattle.std.proofs.lemmas.List.Quantifiers.{all_pairs_push}
use Rattle.std.proofs.lemmas.List.Elements.{All-nil, All-filter, All-weaker, All-same, All-push, All-append, All-map}
use Rattle.std.proofs.lemmas.List.Folds.{list_any-append}
use Rattle.std.proofs.lemmas.List.Sums.{sum_by_push}
use Rattle.std.proofs.lemmas.Option.{cond_some}
use Rattle.store_data.proofs.GroupLemmas.{same-bytes_eq}
use Rattle.store_data.specs.Groups.{first_appearances}
use Rattle.store_data.specs.Sequence.{IsProduct, Plan, plan_of}
use Rattle.store_data.specs.declared.row.Product.{Product}
use Rattle.store_data.specs.declared.row.Row.{Row}
use Rattle.store_data.proofs.IsPlanLemmas.{All-from_list_any}
use Rattle.batch_import.specs.Batch.{batch_of}
use Rattle.batch_import.specs.Outlines.{AreBatchRows}
use Rattle.job_facts.specs.declared.facts.Lot.{Lot}
use Rattle.job_facts.specs.declared.facts.SessionState.{SessionState}
use Rattle.job_facts.specs.declared.facts.RecordState.TheVariants.{Failed, Waiting}
use Rattle.job_facts.specs.Facts.{Batch, Facts, RecordName, Session, no_facts, with_batch, with_close, with_discard, with_lot, with_product, with_remake, with_withdrawal}
use Rattle.job_facts.specs.States.{any_overlaps, batch_named, commands_for, commands_under, is_batch_finished, is_charged, is_closed, is_finished, is_in, is_record, is_running, is_spoiled, is_withdrawn, lot_named, lot_of, overlaps}
use Rattle.job_facts.specs.States.{plan_for, product_named, record_state, record_state_of, records_named, records_of, records_under, remakes_of, rows_of, rows_of_record, rows_under, session_state, state_by, state_with, states_of}
use Rattle.job_facts.specs.Sound.{AreApart, AreBatches, AreLots, AreProducts, AreSessions, AreStates, AreWords, IsBatch, IsLot, IsName, IsRecord, IsSession, IsSound, IsSoundRecord, charges, has_card, runs_on}
use Rattle.job_facts.proofs.Lists.{count_by_same, find-All, find_kept, list_all_same, map_same, named_once_push}
use Rattle.job_facts.proofs.RecordLemmas.{open_parts}

-- ---- options

IsSome-Some : {T : Type 0} (o : Option T) (x : T) → o ≡ Some x → IsSome o
IsSome-Some o x e = ap is_some e

module _ {T : Type 0} where
  -- the value of an option that isn't `None`
  there_of : (o : Option T) → IsSome o → (x : T) × (o ≡ Some x)
  there_of None some = absurd (false≢true some)
  there_of (Some x) some = (x, refl)

  -- An option that isn't `None` is still not `None`.
  IsSome_kept : (o u : Option T) → ((x : T) → o ≡ Some x → u ≡ Some x) → IsSome o → IsSome u
  IsSome_kept o u kept some = let there = there_of o some in IsSome-Some u there.0 (kept there.0 there.1)

-- A batch with a record exists.
batch_there : (products : List Product) (o : Option Batch) (r : List ℕ) → IsTrue (list_any (bytes_eq r) (records_under products o)) → IsSome o
batch_there products None r is = is
batch_there products (Some b) r is = refl

-- ---- facts that know as much under the same names

pub record Grows (f g : Facts) : Type 0 where
  pub products : (n : List ℕ) (p : Product) → product_named f.products n ≡ Some p → product_named g.products n ≡ Some p
  pub lots : (blank : ℕ) (l : Lot) → lot_of f.lots blank ≡ Some l → lot_of g.lots blank ≡ Some l
  pub batches : (n : List ℕ) (b : Batch) → batch_named f.batches n ≡ Some b → batch_named g.batches n ≡ Some b

-- The session is for record `r` of batch `b`.
abbrev pub is_for : List ℕ → List ℕ → Session → Bool
is_for b r s = bytes_eq s.batch b && bytes_eq s.rec r

-- the states of a record's sessions, if `sessions` were all sessions
abbrev pub states_among : Facts → List Session → List ℕ → List ℕ → List SessionState
states_among f sessions b r = map (session_state f) (filter (is_for b r) sessions)

pub states_are : (f : Facts) (b r : List ℕ) → states_of f b r ≡ states_among f f.sessions b r
unfolding states_of
states_are f b r = refl

-- A record is sound with respect to the sessions of the facts.
records_among : (f : Facts) (b r : List ℕ) → AreStates f → IsSoundRecord (states_among f f.sessions b r) (is_withdrawn f b r) (remakes_of f b r)
unfolding states_of
records_among f b r sound_states = sound_states.records b r

-- The sessions, withdrawals and remakes of the record are the same.
abbrev HasSameStates : Facts → Facts → List ℕ → List ℕ → Type 0
HasSameStates f g b r = (states_among f g.sessions b r ≡ states_of f b r) × (is_withdrawn g b r ≡ is_withdrawn f b r) × (remakes_of g b r ≡ remakes_of f b r)

-- a finished batch about whose records the same is known
pub record StaysFinished (f g : Facts) (b : List ℕ) : Type 0 where
  pub there : IsSome (batch_named f.batches b)
  pub finished : IsTrue (is_batch_finished f b)
  pub same : (r : List ℕ) → HasSameStates f g b r

module _ (f g : Facts) (grows : Grows f g) (sound : IsSound f) where
  -- ---- batches

  IsBatch_kept : (b : Batch) → IsBatch f.products b → IsBatch g.products b
  IsBatch_kept b is = record { named = is.named; product = is.product; there = grows.products b.product is.product is.there; rows = is.rows; read = is.read; ranged = is.ranged }

  IsLot_kept : (l : Lot) → IsLot f.products l → IsLot g.products l
  IsLot_kept l is = record {
    named = is.named;
    product = IsSome_kept (product_named f.products l.product) (product_named g.products l.product) (grows.products l.product) is.product;
    least = is.least;
    most = is.most;
    range = is.range;
  }

  product_kept : (n : List ℕ) (b : Batch) → batch_named f.batches n ≡ Some b → product_named g.products b.product ≡ product_named f.products b.product
  product_kept n b there =
      let is = find-All (λ (x : Batch). bytes_eq x.name n) (IsBatch f.products) f.batches b sound.named.batches.each there in
      grows.products b.product is.product is.there ∙ sym is.there

  rows_kept : (n : List ℕ) (b : Batch) → batch_named f.batches n ≡ Some b → rows_of g.products b ≡ rows_of f.products b
  unfolding rows_of
  rows_kept n b there = ap (λ p. rows_under p b.raw) (product_kept n b there)

  plan_kept : (n r : List ℕ) (b : Batch) → batch_named f.batches n ≡ Some b → plan_for g n r ≡ plan_for f n r
  unfolding plan_for
  plan_kept n r b there =
      let rows = rows_kept n b there in
      let product = product_kept n b there in
      let plan : List Row → Option Product → Option Plan = λ rows p. option_map (λ (q : Product). plan_of q (rows_of_record rows r)) p in
      ap (option_and_then (λ (batch : Batch). plan (rows_of g.products batch) (product_named g.products batch.product))) (grows.batches n b there)
      ∙ ap (λ rows. plan rows (product_named g.products b.product)) rows
      ∙ ap (plan (rows_of f.products b)) product
      ∙ sym (ap (option_and_then (λ (batch : Batch). plan (rows_of f.products batch) (product_named f.products batch.product))) there)

  commands_kept : (n r : List ℕ) (b : Batch) → batch_named f.batches n ≡ Some b → commands_for g n r ≡ commands_for f n r
  commands_kept n r b there = ap commands_under (plan_kept n r b there)

  records_kept : (n : List ℕ) (b : Batch) → batch_named f.batches n ≡ Some b → records_named g n ≡ records_named f n
  unfolding records_of
  records_kept n b there =
      ap (records_under g.products) (grows.batches n b there) ∙ ap (λ rows. first_appearances (map (λ (row : Row). row.rec) rows)) (rows_kept n b there)
      ∙ sym (ap (records_under f.products) there)

  IsRecord_kept : (n r : List ℕ) → IsRecord f n r → IsRecord g n r
  IsRecord_kept n r is =
      let batch = there_of (batch_named f.batches n) (batch_there f.products (batch_named f.batches n) r is) in
      ap (list_any (bytes_eq r)) (records_kept n batch.0 batch.1) ∙ is

  named_kept : (names : List RecordName) → All (λ (n : RecordName). IsRecord f n.batch n.rec) names → All (λ (n : RecordName). IsRecord g n.batch n.rec) names
  named_kept names each = All-weaker (λ (n : RecordName). IsRecord f n.batch n.rec) (λ (n : RecordName). IsRecord g n.batch n.rec) (λ n. IsRecord_kept n.batch n.rec) names each

  -- ---- sessions

  state_kept : (s : Session) → IsSession f s → session_state g s ≡ session_state f s
  unfolding session_state
  state_kept s is = ap (λ commands. state_with commands s) (commands_kept s.batch s.rec is.batch is.batch_is)

  IsSession_kept : (s : Session) → IsSession f s → IsSession g s
  IsSession_kept s is = record {
    machine = is.machine;
    there = IsRecord_kept s.batch s.rec is.there;
    batch = is.batch;
    batch_is = grows.batches s.batch is.batch is.batch_is;
    lot = is.lot;
    lot_is = grows.lots s.blank is.lot is.lot_is;
    product = is.product;
    words = subst (λ commands. AreWords commands s.words) (sym (commands_kept s.batch s.rec is.batch is.batch_is)) is.words;
  }

  module _ (each : All (IsSession f) g.sessions) where
    runs_kept : (machine : List ℕ) → count_by (runs_on g machine) g.sessions ≡ count_by (runs_on f machine) g.sessions
    runs_kept machine =
        count_by_same (runs_on g machine) (runs_on f machine) g.sessions
        (All-weaker (IsSession f) (λ s. runs_on g machine s ≡ runs_on f machine s) (λ s is. ap (λ state. bytes_eq s.machine machine && is_running state) (state_kept s is)) g.sessions each)

    sessions_after : ((machine : List ℕ) → count_by (runs_on f machine) g.sessions ≤ 1) → AllPairs (λ a b. a ≢ b) (charges g)
        → All (λ blank. IsSome (lot_of f.lots blank)) (charges g) → AreSessions g
    sessions_after machines once lots = record {
      each = All-weaker (IsSession f) (IsSession g) IsSession_kept g.sessions each;
      machines = λ machine. omega (arith, runs_kept machine, machines machine);
      charged_once = once;
      charged_lots =
          All-weaker (λ blank. IsSome (lot_of f.lots blank)) (λ blank. IsSome (lot_of g.lots blank))
          (λ blank. IsSome_kept (lot_of f.lots blank) (lot_of g.lots blank) (grows.lots blank)) (charges g) lots;
    }

    -- ---- records and closed batches

    states_kept : (b r : List ℕ) → states_of g b r ≡ states_among f g.sessions b r
    states_kept b r =
        states_are g b r
        ∙ map_same (session_state g) (session_state f) (filter (is_for b r) g.sessions)
        (All-filter (is_for b r) (λ s. session_state g s ≡ session_state f s) g.sessions
        (All-weaker (IsSession f) (λ s. session_state g s ≡ session_state f s) state_kept g.sessions each))

    -- The state of a record is unchanged if the same is known about it.
    record_state_kept : (b r : List ℕ) → HasSameStates f g b r → record_state g b r ≡ record_state f b r
    unfolding record_state
    record_state_kept b r same =
        ap (λ states. state_by states (is_withdrawn g b r) (remakes_of g b r)) (states_kept b r ∙ same.0)
        ∙ ap (λ w. state_by (states_of f b r) w (remakes_of g b r)) same.1
        ∙ ap (state_by (states_of f b r) (is_withdrawn f b r)) same.2

    finished_kept : (b : List ℕ) → StaysFinished f g b → IsTrue (is_batch_finished g b)
    unfolding is_batch_finished
    finished_kept b stays =
        let batch = there_of (batch_named f.batches b) stays.there in
        ap (list_all (λ r. is_finished (record_state g b r))) (records_kept b batch.0 batch.1)
        ∙ list_all_same (λ r. is_finished (record_state g b r)) (λ r. is_finished (record_state f b r)) (records_named f b)
        (λ k d within. ap is_finished (record_state_kept b _ (stays.same _)))
        ∙ stays.finished

    are_states_after : ((b r : List ℕ) → IsSoundRecord (states_among f g.sessions b r) (is_withdrawn g b r) (remakes_of g b r))
        → All (λ (n : RecordName). IsRecord f n.batch n.rec) g.remakes
        → All (λ (n : RecordName). IsRecord f n.batch n.rec) g.withdrawn
        → AllPairs (λ (m n : RecordName). is_record n.batch n.rec m ≡ false) g.withdrawn
        → AllPairs (λ b c. bytes_eq c b ≡ false) g.closed
        → All (StaysFinished f g) g.closed
        → AreStates g
    are_states_after records remade withdrawn withdrawn_once closed_once closed = record {
      records = λ b r. subst (λ states. IsSoundRecord states (is_withdrawn g b r) (remakes_of g b r)) (sym (states_kept b r)) (records b r);
      remade = named_kept g.remakes remade;
      withdrawn = named_kept g.withdrawn withdrawn;
      withdrawn_once = withdrawn_once;
      closed_once = closed_once;
      closed_there = λ k d within. IsSome_kept (batch_named f.batches _) (batch_named g.batches _) (grows.batches _) (closed k d within).there;
      closed = λ k d within. finished_kept _ (closed k d within);
    }

-- ---- empty facts

pub sound_nothing : IsSound no_facts
unfolding states_of
sound_nothing = record {
  named = record {
    products = record { few = omega arith; once = λ i j d before within. absurd (omega arith); named = All-nil (λ (p : Product). IsName p.code); ranged = All-nil IsProduct };
    lots = record { few = omega arith; once = λ i j d before within. absurd (omega arith); each = All-nil (IsLot []); apart = λ i j d before within. absurd (omega arith) };
    batches = record { few = omega arith; once = λ i j d before within. absurd (omega arith); each = All-nil (IsBatch []) };
  };
  sessions = record {
    each = All-nil (IsSession no_facts);
    machines = λ machine. omega arith;
    charged_once = λ i j d before within. absurd (omega arith);
    charged_lots = All-nil (λ blank. IsSome (lot_of [] blank));
  };
  states = record {
    records = λ b r. record { one_card = omega arith; remade_least = omega arith; remade_most = omega arith; remade_all = λ card. refl; withdrawn_none = λ withdrawn. refl };
    remade = All-nil (λ (n : RecordName). IsRecord no_facts n.batch n.rec);
    withdrawn = All-nil (λ (n : RecordName). IsRecord no_facts n.batch n.rec);
    withdrawn_once = λ i j d before within. absurd (omega arith);
    closed_once = λ i j d before within. absurd (omega arith);
    closed_there = All-nil (λ b. IsSome (batch_named [] b));
    closed = All-nil (λ b. IsTrue (is_batch_finished no_facts b));
  };
}

-- ---- a new product, lot or batch

module _ (f : Facts) (products : List Product) (lots : List Lot) (batches : List Batch) where
  abbrev grown : Facts
  grown = record f { products = products; lots = lots; batches = batches }

  sound_grown : Grows f grown → IsSound f → AreProducts products → AreLots products lots → AreBatches products batches → IsSound grown
  sound_grown grows sound are_products are_lots are_batches = record {
    named = record { products = are_products; lots = are_lots; batches = are_batches };
    sessions = sessions_after f grown grows sound sound.sessions.each sound.sessions.machines sound.sessions.charged_once sound.sessions.charged_lots;
    states = are_states_after f grown grows sound sound.sessions.each (λ b r. records_among f b r sound.states) sound.states.remade sound.states.withdrawn sound.states.withdrawn_once sound.states.closed_once
        (λ k d within. record { there = sound.states.closed_there k d within; finished = sound.states.closed k d within; same = λ r. (sym (states_are f _ r), refl, refl) });
  }

pub sound_product : (f : Facts) (p : Product) → IsSound f → product_named f.products p.code ≡ None → length f.products < 256 → IsProduct p
    → IsName p.code → IsSound (with_product f p)
sound_product f p sound new few is named =
    let grows : Grows f (with_product f p) = record {
      products = λ n q there. find_kept (λ (x : Product). bytes_eq x.code n) f.products (p ∷ []) q there;
      lots = λ blank l there. there;
      batches = λ n b there. there;
    } in
    sound_grown f (f.products ++ p ∷ []) f.lots f.batches grows sound
    (record {
      few = omega (arith, length_push f.products p);
      once = named_once_push (λ (q : Product). q.code) f.products p sound.named.products.once new;
      named = All-push (λ (q : Product). IsName q.code) f.products p sound.named.products.named named;
      ranged = All-push IsProduct f.products p sound.named.products.ranged is;
    })
    (record { few = sound.named.lots.few; once = sound.named.lots.once; each = All-weaker (IsLot f.products) (IsLot (with_product f p).products) (IsLot_kept f (with_product f p) grows sound) f.lots sound.named.lots.each; apart = sound.named.lots.apart })
    (record { few = sound.named.batches.few; once = sound.named.batches.once; each = All-weaker (IsBatch f.products) (IsBatch (with_product f p).products) (IsBatch_kept f (with_product f p) grows sound) f.batches sound.named.batches.each })

-- a new lot that overlaps no other lot
apart_push : (lots : List Lot) (l : Lot) → any_overlaps lots l.first l.count ≡ false → All (λ (m : Lot). AreApart m l) lots
apart_push lots l none =
    All-weaker (λ (m : Lot). overlaps l.first l.count m ≡ false) (λ (m : Lot). AreApart m l)
    (λ m e. elim (and_cases (ltb l.first (m.first + m.count)) (ltb m.first (l.first + l.count)) e) [
      | inl before ↦ inl (ltb-false l.first (m.first + m.count) before)
      | inr after ↦ inr (ltb-false m.first (l.first + l.count) after)
    ])
    lots (All-from_list_any (overlaps l.first l.count) lots none)

pub sound_lot : (f : Facts) (l : Lot) (p : Product) → IsSound f → lot_named f.lots l.name ≡ None
    → product_named f.products l.product ≡ Some p → any_overlaps f.lots l.first l.count ≡ false
    → length f.lots < 4096 → IsName l.name → 1 ≤ l.count → l.count ≤ 1000000 → l.first + l.count ≤ 10 ^ 18 → IsSound (with_lot f l)
sound_lot f l p sound new there apart few named least most range =
    let grows : Grows f (with_lot f l) = record {
      products = λ n q there. there;
      lots = λ blank m there. find_kept (is_in blank) f.lots (l ∷ []) m there;
      batches = λ n b there. there;
    } in
    let is : IsLot f.products l = record { named = named; product = IsSome-Some (product_named f.products l.product) p there; least = least; most = most; range = range } in
    sound_grown f f.products (f.lots ++ l ∷ []) f.batches grows sound sound.named.products
    (record {
      few = omega (arith, length_push f.lots l);
      once = named_once_push (λ (m : Lot). m.name) f.lots l sound.named.lots.once new;
      each = All-push (IsLot f.products) f.lots l sound.named.lots.each is;
      apart = all_pairs_push AreApart f.lots l sound.named.lots.apart (apart_push f.lots l apart);
    })
    sound.named.batches

pub sound_batch : (f : Facts) (b : Batch) (p : Product) (rows : List Row) → IsSound f → batch_named f.batches b.name ≡ None
    → product_named f.products b.product ≡ Some p → batch_of p b.raw ≡ Ok rows → AreBatchRows rows
    → length f.batches < 4096 → IsName b.name → IsSound (with_batch f b)
sound_batch f b p rows sound new there read ranged few named =
    let grows : Grows f (with_batch f b) = record {
      products = λ n q there. there;
      lots = λ blank l there. there;
      batches = λ n c there. find_kept (λ (x : Batch). bytes_eq x.name n) f.batches (b ∷ []) c there;
    } in
    let is : IsBatch f.products b = record { named = named; product = p; there = there; rows = rows; read = read; ranged = ranged } in
    sound_grown f f.products f.lots (f.batches ++ b ∷ []) grows sound sound.named.products sound.named.lots
    (record {
      few = omega (arith, length_push f.batches b);
      once = named_once_push (λ (c : Batch). c.name) f.batches b sound.named.batches.once new;
      each = All-push (IsBatch f.products) f.batches b sound.named.batches.each is;
    })

-- ---- new facts about existing blanks, records and batches

module _ (f : Facts) (sessions : List Session) (discarded : List ℕ) (remakes withdrawn : List RecordName) (closed : List (List ℕ)) where
  abbrev then : Facts
  then = record f { sessions = sessions; discarded = discarded; remakes = remakes; withdrawn = withdrawn; closed = closed }

  -- with the same products, lots and batches
  pub sound_then : IsSound f
      → All (IsSession f) sessions
      → ((machine : List ℕ) → count_by (runs_on f machine) sessions ≤ 1)
      → AllPairs (λ a b. a ≢ b) (charges then)
      → All (λ blank. IsSome (lot_of f.lots blank)) (charges then)
      → ((b r : List ℕ) → IsSoundRecord (states_among f sessions b r) (is_withdrawn then b r) (remakes_of then b r))
      → All (λ (n : RecordName). IsRecord f n.batch n.rec) remakes
      → All (λ (n : RecordName). IsRecord f n.batch n.rec) withdrawn
      → AllPairs (λ (m n : RecordName). is_record n.batch n.rec m ≡ false) withdrawn
      → AllPairs (λ b c. bytes_eq c b ≡ false) closed
      → All (StaysFinished f then) closed
      → IsSound then
  sound_then sound each machines once lots records remade withdrawn withdrawn_once closed_once stay =
      let grows : Grows f then = record { products = λ n p there. there; lots = λ blank l there. there; batches = λ n b there. there } in
      record {
        named = record { products = sound.named.products; lots = sound.named.lots; batches = sound.named.batches };
        sessions = sessions_after f then grows sound each machines once lots;
        states = are_states_after f then grows sound each records remade withdrawn withdrawn_once closed_once stay;
      }

-- Closed batches are still finished if the same is known about their records.
pub still_finished : (f g : Facts) → AreStates f → All (λ b. (r : List ℕ) → HasSameStates f g b r) f.closed → All (StaysFinished f g) f.closed
still_finished f g sound_states same = λ k d within. record { there = sound_states.closed_there k d within; finished = sound_states.closed k d within; same = same k d within }

-- ---- a discarded blank

-- A blank that isn't charged is different from all charged blanks.
pub uncharged : (f : Facts) (blank : ℕ) → is_charged f blank ≡ false → All (λ a. a ≢ blank) (charges f)
uncharged f blank none =
    let parts = or_parts (list_any (λ (s : Session). eqb s.blank blank) f.sessions) (list_any (λ b. eqb b blank) f.discarded) none in
    All-append (λ a. a ≢ blank) (map (λ (s : Session). s.blank) f.sessions) f.discarded
    (All-map (λ a. a ≢ blank) (λ (s : Session). s.blank) f.sessions
    (All-weaker (λ (s : Session). eqb s.blank blank ≡ false) (λ (s : Session). s.blank ≢ blank) (λ s differ. eqb-false s.blank blank differ)
    f.sessions (All-from_list_any (λ (s : Session). eqb s.blank blank) f.sessions parts.0)))
    (All-weaker (λ b. eqb b blank ≡ false) (λ b. b ≢ blank) (λ b differ. eqb-false b blank differ)
    f.discarded (All-from_list_any (λ b. eqb b blank) f.discarded parts.1))

pub sound_discard : (f : Facts) (blank : ℕ) (l : Lot) → IsSound f → lot_of f.lots blank ≡ Some l → is_charged f blank ≡ false → IsSound (with_discard f blank)
sound_discard f blank l sound there new =
    let g : Facts = with_discard f blank in
    let one_more : charges g ≡ charges f ++ blank ∷ [] = sym (append_assoc (map (λ (s : Session). s.blank) f.sessions) f.discarded (blank ∷ [])) in
    sound_then f f.sessions g.discarded f.remakes f.withdrawn f.closed sound sound.sessions.each sound.sessions.machines
    (subst (AllPairs (λ a b. a ≢ b)) (sym one_more) (all_pairs_push (λ a b. a ≢ b) (charges f) blank sound.sessions.charged_once (uncharged f blank new)))
    (All-same (λ b. IsSome (lot_of f.lots b)) (charges g) (charges f ++ blank ∷ []) one_more
    (All-push (λ b. IsSome (lot_of f.lots b)) (charges f) blank sound.sessions.charged_lots (IsSome-Some (lot_of f.lots blank) l there)))
    (λ b r. records_among f b r sound.states) sound.states.remade sound.states.withdrawn sound.states.withdrawn_once sound.states.closed_once
    (still_finished f g sound.states (λ k d within r. (sym (states_are f _ r), refl, refl)))

-- ---- a closed batch

pub sound_close : (f : Facts) (b : List ℕ) (batch : Batch) → IsSound f → is_closed f b ≡ false → batch_named f.batches b ≡ Some batch
    → is_batch_finished f b ≡ true → IsSound (with_close f b)
sound_close f b batch sound new there finished =
    let g : Facts = with_close f b in
    let same : (c r : List ℕ) → HasSameStates f g c r = λ c r. (sym (states_are f c r), refl, refl) in
    sound_then f f.sessions f.discarded f.remakes f.withdrawn g.closed sound sound.sessions.each sound.sessions.machines sound.sessions.charged_once sound.sessions.charged_lots
    (λ b r. records_among f b r sound.states) sound.states.remade sound.states.withdrawn sound.states.withdrawn_once
    (all_pairs_push (λ c d. bytes_eq d c ≡ false) f.closed b sound.states.closed_once (All-from_list_any (bytes_eq b) f.closed new))
    (All-push (StaysFinished f g) f.closed b (still_finished f g sound.states (λ k d within. same _))
    (record { there = IsSome-Some (batch_named f.batches b) batch there; finished = finished; same = same b }))

-- ---- a record that is remade or withdrawn

-- Record `r` is failed or waiting.
record IsOpen (f : Facts) (b r : List ℕ) (failed : Bool) : Type 0 where
  there : IsRecord f b r
  no_card : list_any has_card (states_of f b r) ≡ false
  stays : is_withdrawn f b r ≡ false
  more : ltb (remakes_of f b r) (count_by is_spoiled (states_of f b r)) ≡ failed

is_open : (f : Facts) (b r : List ℕ) (failed : Bool) → record_state_of f b r ≡ Some (cond failed Failed Waiting) → IsOpen f b r failed
unfolding record_state_of record_state
is_open f b r failed stands =
    let sound_states = cond_some (list_any (bytes_eq r) (records_named f b)) (record_state f b r) (cond failed Failed Waiting) stands in
    let parts = open_parts (states_of f b r) (is_withdrawn f b r) (remakes_of f b r) failed sound_states.1 in
    record { there = sound_states.0; no_card = parts.0; stays = parts.1; more = parts.2 }

-- a test for a record, after a record with another name is added
is_record-other : (b r c q : List ℕ) → bytes_eq b c ≡ false → is_record c q (record { batch = b; rec = r }) ≡ false
is_record-other b r c q differ = and_left (bytes_eq b c) (bytes_eq r q) differ

is_record-same : (b r c q : List ℕ) → is_record c q (record { batch = b; rec = r }) ≡ true → (b ≡ c) × (r ≡ q)
is_record-same b r c q e =
    let parts = and_parts (bytes_eq b c) (bytes_eq r q) e in
    (same-bytes_eq b c parts.0, same-bytes_eq r q parts.1)

remakes_push : (f : Facts) (b r c q : List ℕ) → remakes_of (with_remake f b r) c q ≡ remakes_of f c q + cond (is_record c q (record { batch = b; rec = r })) 1 0
remakes_push f b r c q = sum_by_push (λ n. cond (is_record c q n) 1 0) f.remakes (record { batch = b; rec = r })

remakes-other : (f : Facts) (b r c q : List ℕ) → is_record c q (record { batch = b; rec = r }) ≡ false → remakes_of (with_remake f b r) c q ≡ remakes_of f c q
remakes-other f b r c q miss =
    let more : remakes_of (with_remake f b r) c q ≡ remakes_of f c q + 0 = remakes_push f b r c q ∙ ap (λ t. remakes_of f c q + cond t 1 0) miss in
    omega (arith, more)

remakes-same : (f : Facts) (b r c q : List ℕ) → is_record c q (record { batch = b; rec = r }) ≡ true → remakes_of (with_remake f b r) c q ≡ remakes_of f c q + 1
remakes-same f b r c q hit = remakes_push f b r c q ∙ ap (λ t. remakes_of f c q + cond t 1 0) hit

withdrawn-other : (f : Facts) (b r c q : List ℕ) → is_record c q (record { batch = b; rec = r }) ≡ false
    → is_withdrawn (with_withdrawal f b r) c q ≡ is_withdrawn f c q
withdrawn-other f b r c q miss =
    list_any-append (is_record c q) f.withdrawn (record { batch = b; rec = r } ∷ [])
    ∙ ap (λ t. is_withdrawn f c q || (t || false)) miss ∙ or-false (is_withdrawn f c q)

module _ (f : Facts) (b r : List ℕ) (sound : IsSound f) (unclosed : is_closed f b ≡ false) where
  -- The closed batches are different from this batch.
  closed_other : All (λ c. bytes_eq b c ≡ false) f.closed
  closed_other = All-from_list_any (bytes_eq b) f.closed unclosed

  remade_record : IsOpen f b r true → IsSoundRecord (states_of f b r) (is_withdrawn f b r) (remakes_of f b r + 1)
  remade_record is =
      let was = sound.states.records b r in
      let more = ltb-true (remakes_of f b r) (count_by is_spoiled (states_of f b r)) is.more in
      record {
        one_card = was.one_card;
        remade_least = omega (arith, was.remade_least);
        remade_most = omega arith;
        remade_all = λ card. absurd (both_ways (list_any has_card (states_of f b r)) is.no_card card);
        withdrawn_none = was.withdrawn_none;
      }

  remake_records : IsOpen f b r true → (c q : List ℕ) → IsSoundRecord (states_of f c q) (is_withdrawn f c q) (remakes_of (with_remake f b r) c q)
  remake_records is c q = elim (cases_Bool (is_record c q (record { batch = b; rec = r }))) [
    | inl hit ↦
        let same = is_record-same b r c q hit in
        subst (IsSoundRecord (states_of f c q) (is_withdrawn f c q)) (sym (remakes-same f b r c q hit))
        (subst (λ m. IsSoundRecord (states_of f m q) (is_withdrawn f m q) (remakes_of f m q + 1)) same.0
        (subst (λ m. IsSoundRecord (states_of f b m) (is_withdrawn f b m) (remakes_of f b m + 1)) same.1 (remade_record is)))
    | inr miss ↦ subst (IsSoundRecord (states_of f c q) (is_withdrawn f c q)) (sym (remakes-other f b r c q miss)) (sound.states.records c q)
  ]

  withdrawn_record : (w : Bool) → list_any has_card (states_of f b r) ≡ false → IsSoundRecord (states_of f b r) w (remakes_of f b r)
  withdrawn_record w none =
      let was = sound.states.records b r in
      record { one_card = was.one_card; remade_least = was.remade_least; remade_most = was.remade_most; remade_all = was.remade_all; withdrawn_none = λ withdrawn. none }

  withdrawal_records : list_any has_card (states_of f b r) ≡ false → (c q : List ℕ)
      → IsSoundRecord (states_of f c q) (is_withdrawn (with_withdrawal f b r) c q) (remakes_of f c q)
  withdrawal_records none c q = elim (cases_Bool (is_record c q (record { batch = b; rec = r }))) [
    | inl hit ↦
        let same = is_record-same b r c q hit in
        let w : Bool = is_withdrawn (with_withdrawal f b r) c q in
        subst (λ m. IsSoundRecord (states_of f m q) w (remakes_of f m q)) same.0
        (subst (λ m. IsSoundRecord (states_of f b m) w (remakes_of f b m)) same.1 (withdrawn_record w none))
    | inr miss ↦ subst (λ w. IsSoundRecord (states_of f c q) w (remakes_of f c q)) (sym (withdrawn-other f b r c q miss)) (sound.states.records c q)
  ]

pub sound_remake : (f : Facts) (b r : List ℕ) → IsSound f → is_closed f b ≡ false → record_state_of f b r ≡ Some Failed → IsSound (with_remake f b r)
unfolding states_of
sound_remake f b r sound unclosed stands =
    let g : Facts = with_remake f b r in
    let is = is_open f b r true stands in
    sound_then f f.sessions f.discarded g.remakes f.withdrawn f.closed sound sound.sessions.each sound.sessions.machines sound.sessions.charged_once sound.sessions.charged_lots
    (remake_records f b r sound unclosed is)
    (All-push (λ (n : RecordName). IsRecord f n.batch n.rec) f.remakes (record { batch = b; rec = r }) sound.states.remade is.there)
    sound.states.withdrawn sound.states.withdrawn_once sound.states.closed_once
    (still_finished f g sound.states (λ k d within q. (refl, refl, remakes-other f b r _ q (is_record-other b r _ q (closed_other f b r sound unclosed k d within)))))

-- A record that is failed or waiting is withdrawn.
pub sound_withdraw : (f : Facts) (b r : List ℕ) (failed : Bool) → IsSound f → is_closed f b ≡ false
    → record_state_of f b r ≡ Some (cond failed Failed Waiting) → IsSound (with_withdrawal f b r)
unfolding states_of
sound_withdraw f b r failed sound unclosed stands =
    let g : Facts = with_withdrawal f b r in
    let is = is_open f b r failed stands in
    sound_then f f.sessions f.discarded f.remakes g.withdrawn f.closed sound sound.sessions.each sound.sessions.machines sound.sessions.charged_once sound.sessions.charged_lots
    (withdrawal_records f b r sound unclosed is.no_card) sound.states.remade
    (All-push (λ (n : RecordName). IsRecord f n.batch n.rec) f.withdrawn (record { batch = b; rec = r }) sound.states.withdrawn is.there)
    (all_pairs_push (λ (m n : RecordName). is_record n.batch n.rec m ≡ false) f.withdrawn (record { batch = b; rec = r }) sound.states.withdrawn_once (All-from_list_any (is_record b r) f.withdrawn is.stays))
    sound.states.closed_once
    (still_finished f g sound.states (λ k d within q. (refl, withdrawn-other f b r _ q (is_record-other b r _ q (closed_other f b r sound unclosed k d within)), refl)))
