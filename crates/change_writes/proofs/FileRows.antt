-- The rows of a batch file that are inserted one group after the other.
use Rattle.std.proofs.Common.{◌≡◌, ℕ, ◌+◌, ◌<◌, ◌≤◌, Bool, true, false, List, [], ◌∷◌, ◌++◌, if◌then◌else◌, length, map, Some, Ok, inl, inr, refl, sym, ap, subst, ◌∙◌, arith}
use Rattle.std.specs.Prelude.{bytes_eq}
use Rattle.std.specs.List.{enumerate_from, list_any, position_or_len}
use Rattle.std.specs.List.Sorted.{IsPermutation}
use Rattle.std.proofs.lemmas.Bool.{cases_Bool, or_left, or_right}
use Rattle.std.proofs.lemmas.List.{append-nil, append_assoc, length-append, length-map, map-append, nil_from_length}
use Rattle.std.proofs.lemmas.List.Folds.{list_any-append}
use Rattle.std.proofs.lemmas.List.FromFn.{length-enumerate_from}
use Rattle.std.proofs.lemmas.List.Sorted.{IsPermutation-append_comm, IsPermutation-append_left, IsPermutation-middle, IsPermutation-refl, IsPermutation-sym}
use Rattle.sqlite.specs.Effect.{Database}
use Rattle.sqlite.specs.State.{HasCleanDisk, State}
use Rattle.store_data.specs.Groups.{grouped, with_key, with_the_key}
use Rattle.store_data.specs.declared.row.Row.{Row}
use Rattle.store_data.proofs.CommandLemmas.{enumerate_from-append}
use Rattle.store_data.proofs.GroupLemmas.{bytes_eq-same, keys_more, list_any-first_appearances}
use Rattle.store_data.proofs.IsPlanLemmas.{length-grouped}
use Rattle.batch_import.specs.Batch.{coming_of, no_more}
use Rattle.batch_import.specs.Rows.{Left, TakesRow, row_then}
use Rattle.batch_import.specs.Walks.{rows_then}
use Rattle.batch_import.proofs.WalkLemmas.{coming_of-few}
use Rattle.sql_tables.specs.Each.{Each}
use Rattle.sql_rows.specs.Image.{IsImage, Moves}
use Rattle.sql_rows.specs.Many.{GoesOn, with_groupings, with_records}
use Rattle.sql_rows.proofs.SameRows.{same_rows}
use Rattle.table_rows.specs.After.{new_grouping, new_record}
use Rattle.table_rows.specs.Tables.{HaveSameRows, StoredGrouping, StoredRecord, Tables, with_grouping, with_record}
use Rattle.row_writes.specs.FileRows.{grouping_of, record_of}
use Rattle.row_writes.specs.declared.new_rows.FileRow.{FileRow}
use Rattle.row_writes.specs.declared.new_rows.NewRecord.{NewRecord}
use Rattle.change_writes.specs.Imports.{AreOfFile, IsImported, IsTaken, TakesRows, names_of, record_if_new, with_file_rows, with_next}

abbrev rec_of : Row → List ℕ
rec_of row = row.rec

-- ---- positions of names

module _ {X : Type 0} (p : X → Bool) where
  -- The position of an element that isn't found is the length of the list.
  past : (xs : List X) → list_any p xs ≡ false → position_or_len p xs ≡ length xs
  past [] none = refl
  past (x ∷ xs) none = elim (cases_Bool (p x)) [
    | inl hit ↦ absurd (let e = rw hit at none in cc)
    | inr miss ↦ rw miss (omega (arith, past xs (rw miss at none)))
  ]

  -- The position of an element that is found doesn't change if others are appended.
  stays : (xs ys : List X) → list_any p xs ≡ true → position_or_len p (xs ++ ys) ≡ position_or_len p xs
  stays [] ys there = absurd (cc)
  stays (x ∷ xs) ys there = elim (cases_Bool (p x)) [
    | inl hit ↦ rw hit refl
    | inr miss ↦ rw miss (ap (λ n. 1 + n) (stays xs ys (rw miss at there)))
  ]

  -- The position of the first match doesn't change if another match is appended.
  found_behind : (xs : List X) (y : X) → p y ≡ true → position_or_len p (xs ++ y ∷ []) ≡ position_or_len p xs
  found_behind [] y hit = rw hit refl
  found_behind (x ∷ xs) y hit = elim (cases_Bool (p x)) [
    | inl here ↦ rw here refl
    | inr miss ↦ rw miss (ap (λ n. 1 + n) (found_behind xs y hit))
  ]

-- the name that a row adds, if it is new
abbrev new_name : List (List ℕ) → List ℕ → List (List ℕ)
new_name names k = if list_any (bytes_eq k) names then [] else k ∷ []

key_more : (names : List (List ℕ)) (k : List ℕ) → with_key names k ≡ names ++ new_name names k
key_more names k = elim (cases_Bool (list_any (bytes_eq k) names)) [
  | inl hit ↦ rw hit (sym (append-nil names))
  | inr miss ↦ rw miss refl
]

record_more : (batch : ℕ) (names : List (List ℕ)) (k : List ℕ) → record_if_new batch names k ≡ map (new_record batch) (enumerate_from (length names) (new_name names k))
record_more batch names k = elim (cases_Bool (list_any (bytes_eq k) names)) [
  | inl hit ↦ rw hit refl
  | inr miss ↦ rw (miss, past (bytes_eq k) names miss) refl
]

-- The position of a name is the same before and after the name is added.
own_place : (names : List (List ℕ)) (k : List ℕ) → position_or_len (bytes_eq k) (with_key names k) ≡ position_or_len (bytes_eq k) names
own_place names k = elim (cases_Bool (list_any (bytes_eq k) names)) [
  | inl hit ↦ rw hit refl
  | inr miss ↦ rw miss (found_behind (bytes_eq k) names k (bytes_eq-same k))
]

-- ---- names of rows

names_more : (taken : List Row) (row : Row) → names_of (taken ++ row ∷ []) ≡ with_key (names_of taken) row.rec
names_more taken row = sym (keys_more rec_of taken (names_of taken) [] row row.rec (with_key (names_of taken) row.rec) refl refl refl)

-- The name in a row is one of the names of the rows.
named : (rows : List Row) (j : List ℕ) → list_any (bytes_eq j) (map rec_of rows) ≡ true → list_any (bytes_eq j) (names_of rows) ≡ true
named rows j there = list_any-first_appearances j [] (map rec_of rows) ∙ there

module _ (batch : ℕ) where
  -- rows whose records have the same positions
  alike : (old new : List (List ℕ)) (n : ℕ) (rows : List Row)
      → ((j : List ℕ) → list_any (bytes_eq j) (map rec_of rows) ≡ true → position_or_len (bytes_eq j) new ≡ position_or_len (bytes_eq j) old)
      → map (new_grouping batch new) (enumerate_from n rows) ≡ map (new_grouping batch old) (enumerate_from n rows)
  alike old new n [] same = refl
  alike old new n (row ∷ rows) same =
      let more = alike old new (n + 1) rows (λ j there. same j (or_right (bytes_eq j row.rec) (list_any (bytes_eq j) (map rec_of rows)) there)) in
      let here = same row.rec (or_left (bytes_eq row.rec row.rec) (list_any (bytes_eq row.rec) (map rec_of rows)) (bytes_eq-same row.rec)) in
      rw (here, more) refl

  -- the same rows, with more names appended
  alike_more : (names new : List (List ℕ)) (n : ℕ) (rows : List Row) → ((j : List ℕ) → list_any (bytes_eq j) (map rec_of rows) ≡ true → list_any (bytes_eq j) names ≡ true)
      → map (new_grouping batch (names ++ new)) (enumerate_from n rows) ≡ map (new_grouping batch names) (enumerate_from n rows)
  alike_more names new n rows among = alike names (names ++ new) n rows (λ j there. stays (bytes_eq j) names new (among j there))

-- ---- rows that are inserted after others

-- The rows that were inserted last can be moved to the front.
last_first : {X : Type 0} (xs new ys : List X) → IsPermutation ((xs ++ new) ++ ys) (new ++ (xs ++ ys))
last_first xs new ys =
    subst (IsPermutation ((xs ++ new) ++ ys)) (append_assoc new xs ys) (IsPermutation-append_left ys (xs ++ new) (new ++ xs) (IsPermutation-append_comm xs new))

module _ (batch : ℕ) (taken next : List Row) (new : List (List ℕ)) (named_too : names_of (taken ++ next) ≡ names_of taken ++ new) where
  abbrev more_names : List (List ℕ)
  more_names = names_of (taken ++ next)

  records_more : map (new_record batch) (enumerate_from 0 more_names) ≡ map (new_record batch) (enumerate_from 0 (names_of taken)) ++ map (new_record batch) (enumerate_from (length (names_of taken)) new)
  records_more =
      ap (λ names. map (new_record batch) (enumerate_from 0 names)) named_too
      ∙ ap (map (new_record batch)) (enumerate_from-append 0 (names_of taken) new)
      ∙ map-append (new_record batch) (enumerate_from 0 (names_of taken)) (enumerate_from (0 + length (names_of taken)) new)
      ∙ ap (λ n. map (new_record batch) (enumerate_from 0 (names_of taken)) ++ map (new_record batch) (enumerate_from n new)) {x = 0 + length (names_of taken)} {y = length (names_of taken)} (omega arith)

  groupings_more : map (new_grouping batch more_names) (enumerate_from 2 (taken ++ next))
      ≡ map (new_grouping batch (names_of taken)) (enumerate_from 2 taken) ++ map (new_grouping batch more_names) (enumerate_from (2 + length taken) next)
  groupings_more =
      let grouping = new_grouping batch more_names in
      let behind = map grouping (enumerate_from (2 + length taken) next) in
      ap (map grouping) (enumerate_from-append 2 taken next)
      ∙ map-append grouping (enumerate_from 2 taken) (enumerate_from (2 + length taken) next)
      ∙ ap (λ names. map (new_grouping batch names) (enumerate_from 2 taken) ++ behind) named_too
      ∙ ap (λ gs. gs ++ behind) (alike_more batch (names_of taken) new 2 taken (named taken))

  module _ (rows : List FileRow) (records : List NewRecord) (rows_are : map grouping_of rows ≡ map (new_grouping batch more_names) (enumerate_from (2 + length taken) next))
      (records_are : map record_of records ≡ map (new_record batch) (enumerate_from (length (names_of taken)) new)) where
    rows_more : (t : Tables) → HaveSameRows (with_file_rows batch (taken ++ next) t) (with_next rows records (with_file_rows batch taken t))
    rows_more t =
        let old_records = map (new_record batch) (enumerate_from 0 (names_of taken)) in
        let old_rows = map (new_grouping batch (names_of taken)) (enumerate_from 2 taken) in
        let records =
        subst (λ rs. IsPermutation (rs ++ t.records) (map record_of records ++ (old_records ++ t.records)))
        (sym (records_more ∙ ap (λ rs. old_records ++ rs) (sym records_are)))
        (last_first old_records (map record_of records) t.records) in
        let groupings =
        subst (λ gs. IsPermutation (gs ++ t.groupings) (map grouping_of rows ++ (old_rows ++ t.groupings)))
        (sym (groupings_more ∙ ap (λ gs. old_rows ++ gs) (sym rows_are)))
        (last_first old_rows (map grouping_of rows) t.groupings) in
        search IsPermutation-refl

-- Inserting rows one by one has the same effect as inserting them together.
module _ (t : Tables) where
  records_swapped : (records more : List StoredRecord) → IsPermutation records more → HaveSameRows (record t { records = records }) (record t { records = more })
  records_swapped records more same = search IsPermutation-refl

  groupings_swapped : (groupings more : List StoredGrouping) → IsPermutation groupings more → HaveSameRows (record t { groupings = groupings }) (record t { groupings = more })
  groupings_swapped groupings more same = search IsPermutation-refl

first_behind : {X : Type 0} (x : X) (xs ys : List X) → IsPermutation (x ∷ (xs ++ ys)) (xs ++ x ∷ ys)
first_behind x xs ys = IsPermutation-sym _ _ (IsPermutation-middle xs x ys)

pub each_record : (xs : List NewRecord) (a b : Database) → Each (λ x. Moves (with_record (record_of x))) xs a b → Moves (with_records (map record_of xs)) a b
each_record [] a b same = λ t image. subst (IsImage t) (sym same) image
each_record (x ∷ xs) a b made = λ t image.
    same_rows (with_records (map record_of (x ∷ xs)) t) (with_records (map record_of xs) (with_record (record_of x) t)) b
    (records_swapped t _ _ (first_behind (record_of x) (map record_of xs) t.records)) (each_record xs made.0 b made.2 (with_record (record_of x) t) (made.1 t image))

pub each_row : (xs : List FileRow) (a b : Database) → Each (λ x. Moves (with_grouping (grouping_of x))) xs a b → Moves (with_groupings (map grouping_of xs)) a b
each_row [] a b same = λ t image. subst (IsImage t) (sym same) image
each_row (x ∷ xs) a b made = λ t image.
    same_rows (with_groupings (map grouping_of (x ∷ xs)) t) (with_groupings (map grouping_of xs) (with_grouping (grouping_of x) t)) b
    (groupings_swapped t _ _ (first_behind (grouping_of x) (map grouping_of xs) t.groupings)) (each_row xs made.0 b made.2 (with_grouping (grouping_of x) t) (made.1 t image))

-- ---- reading a file

names_few : (rows : List Row) → length (names_of rows) ≤ length rows
unfolding grouped
names_few rows = omega (arith, length-grouped rec_of rows, length-map (names_of rows) (with_the_key rec_of rows))

module _ (check : Bool) (raw : List ℕ) where
  pub none_taken : (names : List (List ℕ)) (left : Left) → names ≡ [] → left ≡ Ok (coming_of check raw) → IsTaken check raw [] names 2 left
  none_taken names left is_names is_left = record { more = coming_of check raw; left_is = is_left; all = refl; named = is_names; numbered = refl }

  pub taken_few : (taken : List Row) (names : List (List ℕ)) (line : ℕ) (left : Left) → IsTaken check raw taken names line left → line ≤ 4098
  taken_few taken names line left is = omega (arith, is.numbered, coming_of-few check raw, ap (λ c. length c.rows) is.all, length-append taken is.more.rows)

  -- one more row
  module _ (taken : List Row) (names : List (List ℕ)) (line : ℕ) (left : Left) (is : IsTaken check raw taken names line left) (row : Row) (after : Left) (takes : TakesRow left (Ok (Some row)) after) where
    all_is : coming_of check raw ≡ rows_then taken (row_then row takes.0)
    all_is =
        let more : Ok is.more ≡ Ok (row_then row takes.0) = sym is.left_is ∙ takes.1 in
        let same : is.more ≡ row_then row takes.0 = cc in
        is.all ∙ ap (rows_then taken) same

    pub few_taken : length taken < 4096
    few_taken = omega (arith, coming_of-few check raw, ap (λ c. length c.rows) all_is, length-append taken (row ∷ takes.0.rows))

    pub few_named : length names < 4096
    few_named = omega (arith, few_taken, ap length is.named, names_few taken)

    pub one_taken : IsTaken check raw (taken ++ row ∷ []) (with_key names row.rec) (line + 1) after
    one_taken = record {
      more = takes.0;
      left_is = takes.2;
      all = all_is ∙ ap (λ rows. record { rows = rows; fault = takes.0.fault }) (sym (append_assoc taken (row ∷ []) takes.0.rows));
      named = ap (λ names. with_key names row.rec) is.named ∙ sym (names_more taken row);
      numbered = omega (arith, is.numbered, length-append taken (row ∷ []));
    }

-- row `line` of a batch file, for the record at position `place`
abbrev pub grouping_at : ℕ → ℕ → ℕ → Row → StoredGrouping
grouping_at batch line place row =
    record { batch = batch; line = line; place = place; aid = row.aid; rank = row.rank; enc = row.enc; tol = row.tol; coded = row.coded }

-- ---- more rows

module _ (check : Bool) (raw : List ℕ) (taken : List Row) (batch : ℕ) (names : List (List ℕ)) (line : ℕ) where
  -- no rows so far
  pub none_more : (left : Left) → IsTaken check raw taken names line left → TakesRows check raw taken batch names line [] [] names left
  none_more left is = record {
    next = [];
    new = [];
    taken_too = record {
      more = is.more;
      left_is = is.left_is;
      all = is.all ∙ ap (λ rows. rows_then rows is.more) (sym (append-nil taken));
      named = is.named ∙ ap names_of (sym (append-nil taken));
      numbered = omega (arith, is.numbered, ap length (append-nil taken));
    };
    named_too = sym (append-nil names);
    rows_are = refl;
    records_are = refl;
  }

  module _ (rows : List FileRow) (records : List NewRecord) (more_names : List (List ℕ)) (left : Left) (takes_rows : TakesRows check raw taken batch names line rows records more_names left) where
    abbrev next : List Row
    next = takes_rows.next

    pub as_many : length rows ≡ length next
    as_many =
        sym (length-map rows grouping_of) ∙ ap length takes_rows.rows_are ∙ length-map (enumerate_from line next) (new_grouping batch more_names) ∙ length-enumerate_from line next

    module _ (row : Row) (after : Left) (takes : TakesRow left (Ok (Some row)) after) where
      pub names_are_few : length more_names < 4096
      names_are_few = few_named check raw (taken ++ next) more_names (line + length next) left takes_rows.taken_too row after takes

      -- one more row
      module _ (x : FileRow) (at place : ℕ) (x_is : grouping_of x ≡ grouping_at batch at place row) (at_is : at ≡ line + length rows) (place_is : place ≡ position_or_len (bytes_eq row.rec) more_names)
          (with_new : List NewRecord) (new_is : map record_of with_new ≡ map record_of records ++ record_if_new batch more_names row.rec) where
        abbrev all_names : List (List ℕ)
        all_names = with_key more_names row.rec

        abbrev brought : List (List ℕ)
        brought = new_name more_names row.rec

        among : (j : List ℕ) → list_any (bytes_eq j) (map rec_of next) ≡ true → list_any (bytes_eq j) more_names ≡ true
        among j there =
            ap (list_any (bytes_eq j)) takes_rows.taken_too.named
            ∙ named (taken ++ next) j
            (ap (list_any (bytes_eq j)) (map-append rec_of taken next) ∙ list_any-append (bytes_eq j) (map rec_of taken) (map rec_of next) ∙ or_right (list_any (bytes_eq j) (map rec_of taken)) (list_any (bytes_eq j) (map rec_of next)) there)

        row_is : grouping_of x ≡ new_grouping batch all_names (line + length next, row)
        row_is =
            x_is ∙ ap (λ n. grouping_at batch n place row) (at_is ∙ ap (λ n. line + n) as_many)
            ∙ ap (λ p. grouping_at batch (line + length next) p row) (place_is ∙ sym (own_place more_names row.rec))

        all_rows : map grouping_of (rows ++ x ∷ []) ≡ map (new_grouping batch all_names) (enumerate_from line (next ++ row ∷ []))
        all_rows =
            map-append grouping_of rows (x ∷ [])
            ∙ ap (λ gs. gs ++ grouping_of x ∷ []) (takes_rows.rows_are ∙ sym (alike_more batch more_names brought line next among) ∙ ap (λ ns. map (new_grouping batch ns) (enumerate_from line next)) (sym (key_more more_names row.rec)))
            ∙ ap (λ g. map (new_grouping batch all_names) (enumerate_from line next) ++ g ∷ []) row_is
            ∙ sym (map-append (new_grouping batch all_names) (enumerate_from line next) ((line + length next, row) ∷ []))
            ∙ ap (map (new_grouping batch all_names)) (sym (enumerate_from-append line next (row ∷ [])))

        all_records : map record_of with_new ≡ map (new_record batch) (enumerate_from (length names) (takes_rows.new ++ brought))
        all_records =
            let first = enumerate_from (length names) takes_rows.new in
            let many : length more_names ≡ length names + length takes_rows.new = ap length takes_rows.named_too ∙ length-append names takes_rows.new in
            new_is
            ∙ ap (λ rs. rs ++ record_if_new batch more_names row.rec) takes_rows.records_are
            ∙ ap (λ rs. map (new_record batch) first ++ rs) (record_more batch more_names row.rec ∙ ap (λ n. map (new_record batch) (enumerate_from n brought)) many)
            ∙ sym (map-append (new_record batch) first (enumerate_from (length names + length takes_rows.new) brought))
            ∙ ap (map (new_record batch)) (sym (enumerate_from-append (length names) takes_rows.new brought))

        pub one_more : TakesRows check raw taken batch names line (rows ++ x ∷ []) with_new all_names after
        one_more =
            let one = one_taken check raw (taken ++ next) more_names (line + length next) left takes_rows.taken_too row after takes in
            let behind = subst (λ ts. IsTaken check raw ts all_names (line + length next + 1) after) (append_assoc taken next (row ∷ [])) one in
            record {
              next = next ++ row ∷ [];
              new = takes_rows.new ++ brought;
              taken_too =
                  subst (λ n. IsTaken check raw (taken ++ (next ++ row ∷ [])) all_names n after) {x = line + length next + 1} {y = line + length (next ++ row ∷ [])}
                  (omega (arith, length-append next (row ∷ []))) behind;
              named_too = key_more more_names row.rec ∙ ap (λ ns. ns ++ brought) takes_rows.named_too ∙ append_assoc names takes_rows.new brought;
              rows_are = all_rows;
              records_are = all_records;
            }

-- ---- steps of an import

-- The rows that were read are rows of a batch file, so they are few.
pub few_lines : {check : Bool} {raw : List ℕ} {taken : List Row} {batch : ℕ} {names : List (List ℕ)} {line : ℕ} {rows : List FileRow} {records : List NewRecord} {more_names : List (List ℕ)} {left : Left}
    → TakesRows check raw taken batch names line rows records more_names left → line + length rows ≤ 4098
few_lines {check} {raw} {taken} {batch} {names} {line} {rows} {records} {more_names} {left} takes =
    omega (arith, as_many check raw taken batch names line rows records more_names left takes, taken_few check raw (taken ++ takes.next) more_names (line + length takes.next) left takes.taken_too)

module _ (check : Bool) (raw : List ℕ) (batch : ℕ) where
  pub none_imported : (names : List (List ℕ)) (left : Left) (a : State) → names ≡ [] → left ≡ Ok (coming_of check raw) → IsImported check raw batch names 2 left a a
  none_imported names left a is_names is_left = record {
    taken = [];
    is = none_taken check raw names left is_names is_left;
    well = λ clean. record { made = λ t image. image; committed = refl; inside = λ inside. inside };
  }

  module _ (names : List (List ℕ)) (line : ℕ) (left : Left) (a b : State) (imported : IsImported check raw batch names line left a b) where
    pub of_file : AreOfFile names line left
    of_file = (check, (raw, (imported.taken, imported.is)))

    module _ (rows : List FileRow) (records : List NewRecord) (more_names : List (List ℕ)) (after : Left) (takes : TakesRows check raw imported.taken batch names line rows records more_names after) where
      pub imported_more : (c : State) → (HasCleanDisk c → HasCleanDisk b) → (HasCleanDisk c → GoesOn (Moves (with_next rows records)) b c)
          → IsImported check raw batch more_names (line + length rows) after a c
      imported_more c early put = record {
        taken = imported.taken ++ takes.next;
        is =
            subst (λ n. IsTaken check raw (imported.taken ++ takes.next) more_names (line + n) after) (sym (as_many check raw imported.taken batch names line rows records more_names after takes))
            takes.taken_too;
        well = λ clean.
            let before = imported.well (early clean) in
            let adds = put clean in
            let named = imported.is.named in
            let grown : names_of (imported.taken ++ takes.next) ≡ names_of imported.taken ++ takes.new =
            sym takes.taken_too.named ∙ takes.named_too ∙ ap (λ ns. ns ++ takes.new) named in
            let rows_are = takes.rows_are ∙ ap (λ ns. map (new_grouping batch ns) (enumerate_from line takes.next)) takes.taken_too.named
            ∙ ap (λ n. map (new_grouping batch (names_of (imported.taken ++ takes.next))) (enumerate_from n takes.next)) imported.is.numbered in
            let records_are = takes.records_are ∙ ap (λ ns. map (new_record batch) (enumerate_from (length ns) takes.new)) named in
            record {
              made = λ t image.
                  same_rows _ _ c.now (rows_more batch imported.taken takes.next takes.new grown rows records rows_are records_are t)
                  (adds.made (with_file_rows batch imported.taken t) (before.made t image));
              committed = adds.committed ∙ before.committed;
              inside = λ inside. adds.inside (before.inside inside);
            };
      }

      -- If no row was left, all rows were read.
      pub all_imported : length rows ≡ 0 → (length rows < 16 → after ≡ Ok no_more) → HasCleanDisk b → GoesOn (Moves (with_file_rows batch (coming_of check raw).rows)) a b
      all_imported none last clean =
          let is = takes.taken_too in
          let ended : Ok is.more ≡ Ok no_more = sym is.left_is ∙ last (omega (arith, none)) in
          let same : is.more ≡ no_more = cc in
          let no_next : takes.next ≡ [] = nil_from_length takes.next (sym (as_many check raw imported.taken batch names line rows records more_names after takes) ∙ none) in
          let all : (coming_of check raw).rows ≡ imported.taken =
          ap (λ c. c.rows) (is.all ∙ ap (rows_then (imported.taken ++ takes.next)) same) ∙ append-nil (imported.taken ++ takes.next) ∙ ap (λ ns. imported.taken ++ ns) no_next ∙ append-nil imported.taken in
          subst (λ rs. GoesOn (Moves (with_file_rows batch rs)) a b) (sym all) (imported.well clean)
