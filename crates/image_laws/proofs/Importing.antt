-- The rows after a batch is imported.
use Rattle.std.proofs.Common.{◌≡◌, ℕ, ◌+◌, Bool, true, false, cond, List, [], ◌∷◌, ◌++◌, length, map, All, Option, Some, None, refl, sym, ap, subst, ◌∙◌, arith, append-nil, IsPermutation}
use Rattle.std.specs.Prelude.{AllPairs, IsSome, IsTrue, bytes_eq, count_by}
use Rattle.std.specs.List.{enumerate_from, flat_map, list_any, range_with_len}
use Rattle.std.specs.Option.{option_or}
use Rattle.std.proofs.lemmas.Bool.{and_left, both_ways, false_from_ne_true}
use Rattle.std.proofs.lemmas.List.{map-append}
use Rattle.std.proofs.lemmas.List.Concat.{flat_map-append}
use Rattle.std.proofs.lemmas.List.Elements.{All-weaker}
use Rattle.std.proofs.lemmas.List.Folds.{find-append, list_any_none}
use Rattle.std.proofs.lemmas.List.Sorted.{IsPermutation-append_comm}
use Rattle.std.proofs.lemmas.List.Sums.{sum_by-cons}
use Rattle.store_data.specs.Groups.{first_appearances}
use Rattle.store_data.specs.declared.row.Product.{Product}
use Rattle.store_data.specs.declared.row.Row.{Row}
use Rattle.store_data.proofs.CommandLemmas.{enumerate_from-append}
use Rattle.store_data.proofs.GroupLemmas.{bytes_eq-same, same-bytes_eq}
use Rattle.batch_import.specs.Batch.{batch_of, coming_of}
use Rattle.job_facts.specs.declared.change.Change.TheVariants as change
use Rattle.job_facts.specs.declared.change.NewBatch.{NewBatch}
use Rattle.job_facts.specs.declared.facts.RecordState.{RecordState}
use Rattle.job_facts.specs.declared.facts.RecordState.TheVariants as rec
use Rattle.job_facts.specs.Accounts.{batch_totals, record_states, session_states, totals_by}
use Rattle.job_facts.specs.Contents.{Contents}
use Rattle.job_facts.specs.Facts.{Batch, Facts, RecordName, Session, with_batch}
use Rattle.job_facts.specs.Sound.{IsRecord, IsSession, IsSound, IsSoundChange, changed}
use Rattle.job_facts.specs.States.{batch_named, is_closed, is_record, is_withdrawn, product_named, record_state, records_named, records_of, records_under, remakes_of, rows_of, rows_or_none, rows_under, same_record_state, session_state, state_by, states_of}
use Rattle.job_facts.proofs.Lists.{count_by_none, find-All, map_same}
use Rattle.job_facts.proofs.SoundFacts.{is_for, states_are}
use Rattle.step_laws.specs.Later.{KnowsMore}
use Rattle.step_laws.specs.Records.{StandsSame}
use Rattle.step_laws.proofs.BlankSums.{named_once}
use Rattle.step_laws.proofs.Kept.{batch_knows, state_kept}
use Rattle.step_laws.proofs.Permuted.{PassAlone}
use Rattle.step_laws.proofs.RecordStands.{record_same, states_known}
use Rattle.table_rows.specs.After.{batch_rows_after, new_batch, new_grouping, new_record, rows_after}
use Rattle.table_rows.specs.Tables.{HaveSameRows, StoredBatch, StoredRemake}
use Rattle.table_rows.specs.declared.writing.Writing.TheVariants as writing
use Rattle.table_rows.proofs.Found.{filter_none, find_none}
use Rattle.image_laws.specs.Image.{batch_by, batches_by_id, groupings_in, image, placed_records, records_in, remakes_at, remakes_in, sessions_by_id, stored_batch, stored_batches}
use Rattle.image_laws.specs.Image.{stored_blanks, stored_groupings, stored_lots, stored_record, stored_records, stored_remakes, stored_session, stored_sessions, stored_words}
use Rattle.image_laws.proofs.FileRows.{each_record_named, rows_come}
use Rattle.image_laws.proofs.Found.{found_alone, place_kept, some_there, to_last}
use Rattle.image_laws.proofs.Lists.{All-numbered, flat_map_same, pushed, unmoved}
use Rattle.image_laws.proofs.OneRecord.{turned}
use Rattle.image_laws.proofs.Staying.{cursor_kept, record_kept, session_alike, session_states_kept, totals_are}

-- ---- records that are all waiting

count_all : (q : RecordState → Bool) (names : List (List ℕ)) → q rec.Waiting ≡ true → count_by q (map (λ r. rec.Waiting) names) ≡ length names
count_all q [] waits = refl
count_all q (n ∷ names) waits =
    let waiting : List (List ℕ) → List RecordState = λ ns. map (λ r. rec.Waiting) ns in
    let one : cond {A = ℕ} (q rec.Waiting) 1 0 ≡ 1 = ap (λ b. cond {A = ℕ} b 1 0) waits in
    omega (arith, one, sum_by-cons (λ state. cond {A = ℕ} (q state) 1 0) rec.Waiting (waiting names), count_all q names waits)

count_none : (q : RecordState → Bool) (names : List (List ℕ)) → q rec.Waiting ≡ false → count_by q (map (λ r. rec.Waiting) names) ≡ 0
count_none q [] other = refl
count_none q (n ∷ names) other =
    let waiting : List (List ℕ) → List RecordState = λ ns. map (λ r. rec.Waiting) ns in
    let none : cond {A = ℕ} (q rec.Waiting) 1 0 ≡ 0 = ap (λ b. cond {A = ℕ} b 1 0) other in
    omega (arith, none, sum_by-cons (λ state. cond {A = ℕ} (q state) 1 0) rec.Waiting (waiting names), count_none q names other)

-- A batch that contains a record exists.
record_there : (products : List Product) (o : Option Batch) (r : List ℕ) → IsTrue (list_any (bytes_eq r) (records_under products o)) → IsSome o
record_there products None r is = is
record_there products (Some b) r is = refl

module _ (f : Facts) (new : Batch) (sound : IsSound f) (after : IsSound (with_batch f new)) where
  abbrev g : Facts
  g = with_batch f new

  abbrev last : ℕ
  last = 1 + length f.batches

  knows : KnowsMore f g
  knows = batch_knows f new

  stands : (b r : List ℕ) → StandsSame f g b r
  stands b r =
      let states : states_of g b r ≡ states_of f b r = states_known f g b r sound knows refl in
      record { states = states; withdrawn = refl; remakes = refl; stands = record_same f g b r states refl refl }

  -- ---- no other batch has the name of the new one

  abbrev has_name : Batch → Bool
  has_name b = bytes_eq b.name new.name

  others_named : All (λ b. has_name b ≡ false) f.batches
  others_named =
      let once : AllPairs (PassAlone has_name) g.batches = named_once (λ (b : Batch). b.name) g.batches new.name after.named.batches.once in
      All-weaker (λ b. has_name b ≡ true → has_name new ≡ false) (λ b. has_name b ≡ false)
      (λ b alone. false_from_ne_true (has_name b) (λ same. both_ways (has_name new) (alone same) (bytes_eq-same new.name)))
      f.batches (to_last (PassAlone has_name) f.batches new once)

  -- The name of an existing batch isn't the name of the new batch.
  other_there : (n : List ℕ) (b : Batch) → batch_named f.batches n ≡ Some b → bytes_eq n new.name ≡ false
  other_there n b there =
      let passes : bytes_eq b.name n ≡ true = (found_alone (λ (x : Batch). bytes_eq x.name n) f.batches b (named_once (λ (x : Batch). x.name) f.batches n sound.named.batches.once) there).0 in
      ap (λ m. bytes_eq m new.name) (sym (same-bytes_eq b.name n passes))
      ∙ find-All (λ (x : Batch). bytes_eq x.name n) (λ x. has_name x ≡ false) f.batches b others_named there

  other_record : (b r : List ℕ) → IsRecord f b r → bytes_eq b new.name ≡ false
  other_record b r is =
      let batch = some_there (batch_named f.batches b) (record_there f.products (batch_named f.batches b) r is) in
      other_there b batch.0 batch.1

  other_sessions : All (λ (s : Session). bytes_eq s.batch new.name ≡ false) f.sessions
  other_sessions = All-weaker (IsSession f) (λ (s : Session). bytes_eq s.batch new.name ≡ false) (λ s is. other_there s.batch is.batch is.batch_is) f.sessions sound.sessions.each

  -- A look-up of another name finds the same batch as before.
  named_other : (n : List ℕ) → bytes_eq n new.name ≡ false → batch_named g.batches n ≡ batch_named f.batches n
  named_other n other =
      find-append (λ (b : Batch). bytes_eq b.name n) f.batches (new ∷ [])
      ∙ ap (λ t. option_or (batch_named f.batches n) (cond t (Some new) None)) (turned n new.name other)
      ∙ or_none (batch_named f.batches n)
    where
      or_none : (o : Option Batch) → option_or o None ≡ o
      or_none None = refl
      or_none (Some b) = refl

  -- A look-up of the new name finds the new batch.
  named_new : batch_named g.batches new.name ≡ Some new
  named_new =
      find-append has_name f.batches (new ∷ []) ∙ ap (λ o. option_or o (cond (has_name new) (Some new) None)) (find_none has_name f.batches others_named)
      ∙ ap (λ t. cond t (Some new) None) (bytes_eq-same new.name)

  -- ---- the rows of other batches, and sessions

  records_other : (n : List ℕ) → bytes_eq n new.name ≡ false → records_named g n ≡ records_named f n
  records_other n other = ap (records_under f.products) (named_other n other)

  record_states_other : (n : List ℕ) → bytes_eq n new.name ≡ false → record_states g n ≡ record_states f n
  unfolding record_states
  record_states_other n other =
      ap (map (record_state g n)) (records_other n other) ∙ map_same (record_state g n) (record_state f n) (records_named f n) (λ k d within. (stands n _).stands)

  batch_other : (e : ℕ × Batch) → has_name e.1 ≡ false → stored_batch g e ≡ stored_batch f e
  batch_other e other =
      let n = e.1.name in
      ap (batch_by e (is_closed f n))
      (totals_are g n ∙ ap (λ states. totals_by states (session_states g n)) (record_states_other n other)
      ∙ ap (totals_by (record_states f n)) (session_states_kept f g sound knows refl n) ∙ sym (totals_are f n))

  session_other : (e : ℕ × Session) → IsSession f e.1 → stored_session g e ≡ stored_session f e
  session_other e is =
      let s = e.1 in
      session_alike f g e
      (ap (λ n. 1 + n) (place_kept (λ (b : Batch). bytes_eq b.name s.batch) f.batches (new ∷ []) is.batch is.batch_is))
      (records_other s.batch (other_there s.batch is.batch is.batch_is)) (state_kept f g knows sound s is) (cursor_kept f g sound knows s is)

  pub sessions_old : stored_sessions g ≡ stored_sessions f
  unfolding stored_sessions
  sessions_old =
      map_same (stored_session g) (stored_session f) (sessions_by_id f)
      (All-weaker (λ (e : ℕ × Session). IsSession f e.1) (λ e. stored_session g e ≡ stored_session f e) session_other
      (sessions_by_id f) (All-numbered (IsSession f) 1 f.sessions sound.sessions.each))

  -- ---- the records of the new batch

  no_states : (r : List ℕ) → states_of g new.name r ≡ []
  no_states r =
      (stands new.name r).states ∙ states_are f new.name r
      ∙ ap (map (session_state f)) (filter_none (is_for new.name r) f.sessions
      (All-weaker (λ (s : Session). bytes_eq s.batch new.name ≡ false) (λ s. is_for new.name r s ≡ false) (λ s other. and_left (bytes_eq s.batch new.name) (bytes_eq s.rec r) other) f.sessions other_sessions))

  not_named : (r : List ℕ) (names : List RecordName) → All (λ (n : RecordName). IsRecord f n.batch n.rec) names → list_any (is_record new.name r) names ≡ false
  not_named r names each =
      list_any_none (is_record new.name r) names
      (All-weaker (λ (n : RecordName). IsRecord f n.batch n.rec) (λ n. is_record new.name r n ≡ false)
      (λ n is. and_left (bytes_eq n.batch new.name) (bytes_eq n.rec r) (other_record n.batch n.rec is)) names each)

  no_remakes : (r : List ℕ) → remakes_of g new.name r ≡ 0
  no_remakes r = count_by_none (is_record new.name r) f.remakes (not_named r f.remakes sound.states.remade)

  waits : (r : List ℕ) → record_state g new.name r ≡ rec.Waiting
  unfolding record_state
  waits r =
      ap (λ states. state_by states (is_withdrawn g new.name r) (remakes_of g new.name r)) (no_states r)
      ∙ ap (λ w. state_by [] w (remakes_of g new.name r)) (not_named r f.withdrawn sound.states.withdrawn)
      ∙ ap (state_by [] false) (no_remakes r)

  record_new : (id : ℕ) (r : ℕ × List ℕ) → stored_record g (id, new) r ≡ new_record id r
  record_new id r =
      let states = no_states r.1 in
      let remakes = no_remakes r.1 in
      let state = waits r.1 in
      rw (states, remakes, state) refl

  -- ---- lists of rows to which the rows of the new batch are appended

  module _ {Y : Type 0} (then_rows now_rows : ℕ × Batch → List Y) (own : List Y) where
    rows_more : ((e : ℕ × Batch) → now_rows e ≡ then_rows e) → now_rows (last, new) ≡ own → flat_map now_rows (batches_by_id g) ≡ flat_map then_rows (batches_by_id f) ++ own
    rows_more old here =
        ap (flat_map now_rows) (enumerate_from-append 1 f.batches (new ∷ [])) ∙ flat_map-append now_rows (batches_by_id f) ((last, new) ∷ [])
        ∙ ap (λ rows. rows ++ (now_rows (last, new) ++ [])) (flat_map_same now_rows then_rows (batches_by_id f) (λ k d within. old _))
        ∙ ap (λ rows. flat_map then_rows (batches_by_id f) ++ rows) (append-nil (now_rows (last, new)) ∙ here)

  pub remakes_old : stored_remakes g ≡ stored_remakes f
  unfolding stored_remakes
  remakes_old =
      let old : (e : ℕ × Batch) → remakes_in g e ≡ remakes_in f e =
      λ e. flat_map_same (remakes_at g e) (remakes_at f e) (placed_records f e) (λ k d within. rw (stands e.1.name _).remakes refl) in
      rows_more (remakes_in f) (remakes_in g) [] old (nothing (placed_records f (last, new))) ∙ append-nil (flat_map (remakes_in f) (batches_by_id f))
    where
      nothing : (rs : List (ℕ × List ℕ)) → flat_map (remakes_at g (last, new)) rs ≡ []
      nothing [] = refl
      nothing (r ∷ rs) =
          ap (λ n. map (λ turn. let row : StoredRemake = record { batch = last; place = r.0; turn = turn } in row) (range_with_len 1 n) ++ flat_map (remakes_at g (last, new)) rs) (no_remakes r.1)
          ∙ nothing rs

  module _ (rows : List Row) (rows_are : rows_of f.products new ≡ rows) where
    abbrev names : List (List ℕ)
    names = first_appearances (map (λ (row : Row). row.rec) rows)

    names_are : records_of f.products new ≡ names
    unfolding records_of
    names_are = ap (λ rs. first_appearances (map (λ (row : Row). row.rec) rs)) rows_are

    pub records_more : stored_records g ≡ stored_records f ++ map (new_record last) (enumerate_from 0 names)
    unfolding stored_records
    records_more =
        rows_more (records_in f) (records_in g) (map (new_record last) (enumerate_from 0 names))
        (λ e. map_same (stored_record g e) (stored_record f e) (placed_records f e) (λ k d within. record_kept f g stands e _))
        (ap (λ ns. map (stored_record g (last, new)) (enumerate_from 0 ns)) names_are
        ∙ map_same (stored_record g (last, new)) (new_record last) (enumerate_from 0 names) (λ k d within. record_new last _))

    pub groupings_more : stored_groupings g ≡ stored_groupings f ++ map (new_grouping last names) (enumerate_from 2 rows)
    unfolding stored_groupings
    groupings_more =
        rows_more (groupings_in f) (groupings_in g) (map (new_grouping last names) (enumerate_from 2 rows)) (λ e. refl)
        (ap (λ ns. map (new_grouping last ns) (enumerate_from 2 (rows_of f.products new))) names_are
        ∙ ap (λ rs. map (new_grouping last names) (enumerate_from 2 rs)) rows_are)

    all_wait : record_states g new.name ≡ map (λ r. rec.Waiting) names
    unfolding record_states
    all_wait =
        ap (λ o. map (record_state g new.name) (records_under f.products o)) named_new
        ∙ ap (map (record_state g new.name)) names_are
        ∙ map_same (record_state g new.name) (λ r. rec.Waiting) names (λ k d within. waits _)

    no_session_states : session_states g new.name ≡ []
    unfolding session_states
    no_session_states = ap (map (session_state g)) (filter_none (λ (s : Session). bytes_eq s.batch new.name) f.sessions other_sessions)

    open_then : is_closed g new.name ≡ false
    open_then =
        list_any_none (bytes_eq new.name) f.closed
        (All-weaker (λ b. IsSome (batch_named f.batches b)) (λ b. bytes_eq new.name b ≡ false)
        (λ b there. let batch = some_there (batch_named f.batches b) there in turned b new.name (other_there b batch.0 batch.1)) f.closed sound.states.closed_there)

    batch_new : stored_batch g (last, new) ≡ new_batch last new.name new.product new.raw (length names)
    batch_new =
        let row : Bool → List RecordState → StoredBatch = λ closed states. batch_by (last, new) closed (totals_by states []) in
        let waiting = count_all (same_record_state rec.Waiting) names refl in
        let running = count_none (same_record_state rec.Running) names refl in
        let failed = count_none (same_record_state rec.Failed) names refl in
        let withdrawn = count_none (same_record_state rec.Withdrawn) names refl in
        let good = count_none (same_record_state rec.Good) names refl in
        ap (λ closed. batch_by (last, new) closed (batch_totals g new.name)) open_then
        ∙ ap (batch_by (last, new) false) (totals_are g new.name ∙ ap (λ states. totals_by states (session_states g new.name)) all_wait ∙ ap (totals_by (map (λ r. rec.Waiting) names)) no_session_states)
        ∙ rw (waiting, running, failed, withdrawn, good) refl

    pub batches_more : stored_batches g ≡ stored_batches f ++ new_batch last new.name new.product new.raw (length names) ∷ []
    unfolding stored_batches
    batches_more =
        ap (map (stored_batch g)) (enumerate_from-append 1 f.batches (new ∷ [])) ∙ map-append (stored_batch g) (batches_by_id f) ((last, new) ∷ [])
        ∙ ap (λ rows. rows ++ stored_batch g (last, new) ∷ [])
        (map_same (stored_batch g) (stored_batch f) (batches_by_id f)
        (All-weaker (λ (e : ℕ × Batch). has_name e.1 ≡ false) (λ e. stored_batch g e ≡ stored_batch f e) batch_other
        (batches_by_id f) (All-numbered (λ b. has_name b ≡ false) 1 f.batches others_named)))
        ∙ ap (λ row. stored_batches f ++ row ∷ []) batch_new

-- An appended list may also be prepended.
behind : {X : Type 0} (xs ys zs : List X) → zs ≡ xs ++ ys → IsPermutation zs (ys ++ xs)
behind xs ys zs is = subst (λ l. IsPermutation l (ys ++ xs)) (sym is) (IsPermutation-append_comm xs ys)

rows_read : (products : List Product) (new : Batch) (product : Product) → product_named products new.product ≡ Some product → rows_of products new ≡ rows_or_none (batch_of product new.raw)
unfolding rows_of
rows_read products new product there = ap (λ p. rows_under p new.raw) there

pub rows_after_batch : (c : Contents) (b : NewBatch) → IsSound c.facts → IsSoundChange c.facts (change.AddsBatch b)
    → HaveSameRows (image (record c { facts = changed c.facts (change.AddsBatch b) })) (rows_after (writing.AddsBatch b) (image c))
unfolding stored_lots stored_blanks stored_words
rows_after_batch c b sound keeps =
    let f = c.facts in
    let p = b.product in
    let raw = b.raw.now in
    let new : Batch = record { name = b.name; product = p.code; raw = raw } in
    let owed = keeps.before in
    let rows : List Row = (coming_of p.check raw).rows in
    let come : rows ≡ owed.rows = rows_come p raw owed.rows owed.read in
    let read : rows_of f.products new ≡ rows = rows_read f.products new p owed.product ∙ ap rows_or_none owed.read ∙ sym come in
    let found : List (List ℕ) = first_appearances (map (λ (row : Row). row.rec) rows) in
    let counted : length found ≡ b.records =
    sym (owed.counted ∙ each_record_named owed.rows ∙ ap (λ (rs : List Row). length (first_appearances (map (λ (row : Row). row.rec) rs))) (sym come)) in
    let id : ℕ = last f new sound keeps.sound in
    let is_next : id ≡ b.number = omega (arith, owed.next) in
    let same : HaveSameRows (image (record c { facts = with_batch f new })) (batch_rows_after id b.name p.code raw (length found) rows (image c)) = record {
      products = unmoved _ _ refl;
      lots = unmoved _ _ refl;
      batches = subst (λ bs. IsPermutation bs (new_batch id b.name p.code raw (length found) ∷ stored_batches f)) (sym (batches_more f new sound keeps.sound rows read))
          (pushed (stored_batches f) (new_batch id b.name p.code raw (length found)));
      records = behind (stored_records f) (map (new_record id) (enumerate_from 0 found)) _ (records_more f new sound keeps.sound rows read);
      groupings = behind (stored_groupings f) (map (new_grouping id found) (enumerate_from 2 rows)) _ (groupings_more f new sound keeps.sound rows read);
      sessions = unmoved _ _ (sessions_old f new sound keeps.sound);
      words = unmoved _ _ refl;
      blanks = unmoved _ _ refl;
      remakes = unmoved _ _ (remakes_old f new sound keeps.sound);
      replies = unmoved _ _ refl;
      marks = unmoved _ _ refl;
    } in
    subst (λ n. HaveSameRows (image (record c { facts = with_batch f new })) (batch_rows_after n b.name p.code raw b.records rows (image c))) is_next
    (subst (λ k. HaveSameRows (image (record c { facts = with_batch f new })) (batch_rows_after id b.name p.code raw k rows (image c))) counted same)
