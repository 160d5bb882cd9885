-- The relation between replies that are read without their bytes and the stored replies.
use Rattle.std.proofs.Common.{◌≡◌, ◌∙◌, ℕ, zero, suc, codes, Bool, true, false, not, None, List, [], ◌∷◌, map, drop, length, slice_index_or, slice_set, All, refl, sym, ap, ap₂, subst}
use Rattle.std.specs.List.{AllByRecursion, swap}
use Rattle.std.specs.List.Sorted.{IsPermutation, SwapsInRange, apply_swaps}
use Rattle.std.proofs.lemmas.List.Elements.{All-map}
use Rattle.std.proofs.lemmas.List.Sorted.{All-permutation, IsPermutation-map, IsPermutation-refl, IsPermutation-sym}
use Rattle.sqlite.specs.Effect.{Database, IsDatabase}
use Rattle.sqlite.specs.Ops.{is_null}
use Rattle.sqlite.specs.Order.{Row, column}
use Rattle.sqlite.specs.declared.types.Value.{Value}
use Rattle.sqlite.specs.declared.types.Value.TheVariants.{Blob, Int, Null, Real, Text}
use Rattle.sqlite_keyed.proofs.RuleLemmas.{first_of_both, second_of_both}
use Rattle.sqlite_schema.specs.Rules.{are_present, are_typed, passes, suits}
use Rattle.sqlite_schema.specs.declared.schema.Column.{Column}
use Rattle.sqlite_schema.specs.declared.schema.Constraint.TheVariants.{Datatype, NotNull}
use Rattle.job_facts.specs.Contents.{Entry}
use Rattle.sql_base.specs.Columns.{blob_column}
use Rattle.sql_rows.specs.Decoding.{reply_of}
use Rattle.sql_rows.specs.Encoding.{reply_row}
use Rattle.sql_rows.specs.Image.{given_rows}
use Rattle.sql_tables.specs.Finds.{Finds}
use Rattle.sql_tables.specs.Tables.{reply_at}
use Rattle.table_reads.specs.Replies.{StandWithoutBytes, brief_of}
use Rattle.table_reads.specs.Shown.{IsAny, IsBlob, IsBriefRow}
use Rattle.table_reads.specs.Unread.{without_bytes}
use Rattle.table_reads.specs.Whole.{AreShown, NoneFit, columns_of, with_rowid}
use Rattle.table_reads.proofs.BriefText.{brief_columns}
use Rattle.table_reads.proofs.ReadRows.{each_keeps, from_all, shaped, to_all}
use Rattle.table_reads.proofs.Shapes.{filled, spread}

-- ---- rows in the order in which the query returns them

module _ {A B : Type 0} (f : A → B) where
  index_map : (xs : List A) (k : ℕ) (d : A) → f (slice_index_or xs k d) ≡ slice_index_or (map f xs) k (f d)
  index_map [] k d = refl
  index_map (x ∷ xs) zero d = refl
  index_map (x ∷ xs) (suc k) d = index_map xs k d

  set_map : (xs : List A) (k : ℕ) (a : A) → map f (slice_set xs k a) ≡ slice_set (map f xs) k (f a)
  set_map [] k a = refl
  set_map (x ∷ xs) zero a = refl
  set_map (x ∷ xs) (suc k) a = ap (λ ys. f x ∷ ys) (set_map xs k a)

  swap_map : (xs : List A) (i j : ℕ) → map f (swap xs i j) ≡ swap (map f xs) i j
  swap_map [] i j = refl
  swap_map (x ∷ xs) i j =
      set_map (slice_set (x ∷ xs) i (slice_index_or (x ∷ xs) j x)) j (slice_index_or (x ∷ xs) i x)
      ∙ ap₂ (λ ys y. slice_set ys j y) (set_map (x ∷ xs) i (slice_index_or (x ∷ xs) j x) ∙ ap (slice_set (map f (x ∷ xs)) i) (index_map (x ∷ xs) j x)) (index_map (x ∷ xs) i x)

  swaps_map : (xs : List A) (moves : List (ℕ × ℕ)) → map f (apply_swaps xs moves) ≡ apply_swaps (map f xs) moves
  swaps_map xs [] = refl
  swaps_map xs (m ∷ moves) = swap_map (apply_swaps xs moves) m.0 m.1 ∙ ap (λ ys. swap ys m.0 m.1) (swaps_map xs moves)

  long : (xs : List A) → length (map f xs) ≡ length xs
  long [] = refl
  long (x ∷ xs) = ap suc (long xs)

  -- the elements that `f` maps to a permutation `ys`
  pub record Behind (xs : List A) (ys : List B) : Type 0 where
    pub all : List A
    pub same : IsPermutation xs all
    pub is : map f all ≡ ys

  pub behind : (xs : List A) (ys : List B) → IsPermutation (map f xs) ys → Behind xs ys
  behind xs ys shown = record {
    all = apply_swaps xs shown.moves;
    same = record { moves = shown.moves; below = subst (λ n. SwapsInRange n shown.moves) (long xs) shown.below; is = refl };
    is = swaps_map xs shown.moves ∙ sym shown.is;
  }

-- ---- one row

abbrev pub brief : Row → Row
brief = columns_of (with_rowid brief_columns)

blob_is : (name : List ℕ) (v : Value) → suits (blob_column name) v ≡ true → not (is_null v) ≡ true → IsBlob v
blob_is name Null typed present = absurd (cc)
blob_is name (Int n) typed present = absurd (cc)
blob_is name (Real x) typed present = absurd (cc)
blob_is name (Text t) typed present = absurd (cc)
blob_is name (Blob b) typed present = refl

abbrev columns : List Column
columns = (reply_at 0).columns

abbrev Keeps : Row → Type 0
Keeps r = (are_typed None 0 columns (drop 1 r) ≡ true) × (are_present None 0 columns r ≡ true)

-- A stored row is the encoding of a reply if the query returns a reply without bytes for it.
entry_whole : (r : Row) → Keeps r → IsBriefRow (brief r) → reply_row (reply_of (drop 1 r)) ≡ drop 1 r
unfolding IsBriefRow
entry_whole r keeps is =
    let there : drop 1 r ≡ spread 0 columns r = filled None columns 0 r (drop 1 r) refl refl keeps.0 keeps.1 in
    let typed = second_of_both _ _ (second_of_both _ _ (subst (λ vs. are_typed None 0 columns vs ≡ true) there keeps.0)) in
    let present = second_of_both _ _ (second_of_both _ _ keeps.1) in
    let ask = blob_is (codes "ask") (column r 3) (first_of_both _ _ typed) (first_of_both _ _ present) in
    let body = blob_is (codes "body") (column r 5) (first_of_both _ _ (second_of_both _ _ (second_of_both _ _ typed))) (first_of_both _ _ (second_of_both _ _ (second_of_both _ _ present))) in
    subst (λ g. reply_row (reply_of g) ≡ g) (sym there) (ap₂ ◌∷◌ is.1 (ap₂ ◌∷◌ is.2 (ap₂ ◌∷◌ ask (ap₂ ◌∷◌ is.3 (ap₂ ◌∷◌ body refl)))))

brief_back : (r : Row) → brief_of (brief r) ≡ without_bytes (reply_of (drop 1 r))
brief_back [] = refl
brief_back (x ∷ r) = refl

-- The query returns a reply without bytes for a row that encodes a reply.
brief_law : (e : Entry) → IsAny e → (r : Row) → drop 1 r ≡ reply_row e → IsBriefRow (brief r)
unfolding IsBriefRow
brief_law e any [] is = absurd (cc)
brief_law e any (id ∷ row) is = subst (λ g. IsBriefRow (brief (id ∷ g))) (sym is) (refl, refl, refl, refl)

-- ---- all rows

all_whole : (rows : List Row) → AllByRecursion Keeps rows → AllByRecursion IsBriefRow (map brief rows) → map reply_row (map reply_of (map (drop 1) rows)) ≡ map (drop 1) rows
all_whole [] keeps are = refl
all_whole (r ∷ rows) keeps are = ap₂ ◌∷◌ (entry_whole r keeps.0 are.0) (all_whole rows keeps.1 are.1)

all_back : (rows : List Row) → map brief_of (map brief rows) ≡ map without_bytes (map reply_of (map (drop 1) rows))
all_back [] = refl
all_back (r ∷ rows) = ap₂ ◌∷◌ (brief_back r) (all_back rows)

both_each : (P Q : Row → Type 0) → ((r : Row) → P r → Q r → Keeps r) → (rows : List Row) → AllByRecursion P rows → AllByRecursion Q rows → AllByRecursion Keeps rows
both_each P Q both [] ps qs = tt
both_each P Q both (r ∷ rows) ps qs = (both r ps.0 qs.0, both_each P Q both rows ps.1 qs.1)

each_kept : (db : Database) → IsDatabase db → (tree : ℕ) → Finds db.schema (reply_at tree) → AllByRecursion Keeps (db.trees tree)
each_kept db sound tree f =
    both_each (λ r. passes Datatype db.schema db.trees (reply_at tree) r ≡ true) (λ r. passes NotNull db.schema db.trees (reply_at tree) r ≡ true) (λ r typed present. (first_of_both _ _ typed, present)) (db.trees tree)
    (each_keeps Datatype db sound reply_at tree refl f) (each_keeps NotNull db sound reply_at tree refl f)

pub stand_without_bytes : (db : Database) → IsDatabase db → (tree : ℕ) → Finds db.schema (reply_at tree) → (rows : List Row) (apart : Bool) → AreShown (with_rowid brief_columns) (db.trees tree) rows apart → All IsBriefRow rows
    → StandWithoutBytes (map brief_of rows) (given_rows false (db.trees tree))
stand_without_bytes db sound tree f rows apart shown are =
    let stored = db.trees tree in
    let b = behind brief stored rows shown.rows in
    let keeps = from_all Keeps b.all (All-permutation Keeps stored b.all b.same (to_all Keeps stored (each_kept db sound tree f))) in
    let briefs = from_all IsBriefRow (map brief b.all) (subst (All IsBriefRow) (sym b.is) are) in
    record {
      all = map reply_of (map (drop 1) b.all);
      without = ap (map brief_of) (sym b.is) ∙ all_back b.all;
      rows_are = subst (λ xs. IsPermutation xs (map (drop 1) stored)) (sym (all_whole b.all keeps briefs)) (IsPermutation-map (drop 1) b.all stored (IsPermutation-sym _ _ b.same));
    }

pub none_stand : (stored rows : List Row) (apart : Bool) → AreShown (with_rowid brief_columns) stored rows apart → (All IsBriefRow rows → ⊥) → NoneFit reply_row IsAny (given_rows false stored)
none_stand stored rows apart shown none = λ xs all same.
    none (All-permutation IsBriefRow (map brief stored) rows shown.rows
    (All-map IsBriefRow brief stored (shaped reply_row IsAny (drop 1) (λ r. IsBriefRow (brief r)) brief_law stored (map (drop 1) stored) (IsPermutation-refl _) xs all same)))
