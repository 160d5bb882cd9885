-- After rows are inserted one after the other, the table has the previous rows and the rows of the
-- list.
use Rattle.std.proofs.Common.{◌≡◌, List, [], ◌∷◌, ◌++◌, map, Result, Ok, Err, refl, sym, ap, subst, ◌∙◌}
use Rattle.std.specs.Prelude.{OnOk}
use Rattle.std.specs.List.{fold}
use Rattle.std.specs.List.Sorted.{IsPermutation}
use Rattle.std.proofs.lemmas.List.{append-nil, append_assoc}
use Rattle.std.proofs.lemmas.List.Sorted.{IsPermutation-append_comm, IsPermutation-append_left, IsPermutation-refl, IsPermutation-trans}
use Rattle.sqlite.specs.Effect.{Database}
use Rattle.sqlite.specs.State.{State}
use Rattle.sqlite.specs.declared.error.Error.{Error}
use Rattle.sqlite.proofs.InsideLemmas.{keeps_then}
use Rattle.sql_tables.specs.Each.{Each, WroteEach}
use Rattle.sql_rows.specs.Image.{IsImage, Moves}
use Rattle.sql_rows.proofs.SameRows.{same_rows}
use Rattle.table_rows.specs.Tables.{HaveSameRows, StoredBatch, Tables, no_rows, with_batch, with_blank, with_grouping, with_lot, with_mark, with_product, with_record, with_remake, with_reply, with_session, with_word}
use Rattle.sql_rows.specs.Many.{WroteMany}
use Rattle.remaking.specs.Rows.{bare, with_all, with_bare, with_each, without_bytes}

-- ---- parts of a transaction, one after the other

-- the effect of the statements of rows, one after the other
module _ {X : Type 0} (with_row : X → Tables → Tables) where
  each_moved : (xs : List X) (old new : Database) → Each (λ x. Moves (with_row x)) xs old new → Moves (with_each with_row xs) old new
  each_moved [] old new same = λ t image. subst (IsImage t) (sym same) image
  each_moved (x ∷ xs) old new made = λ t image. each_moved xs made.0 new made.2 (with_row x t) (made.1 t image)

  pub all_moved : {Y : Type 0} (xs : List X) (a b : State) (r : Result Y Error) → WroteEach (λ x. Moves (with_row x)) xs a b r → WroteMany (Moves (with_each with_row xs)) a b r
  all_moved xs a b (Ok y) it = record { well = record { made = each_moved xs a.now b.now it.well.made; committed = it.well.committed; inside = it.well.goes_on }; kept = it.kept }
  all_moved xs a b (Err e) it = record { well = tt; kept = it.kept }

-- a part after one that succeeded, if both together change the rows by `h`
module _ (f g h : Tables → Tables) (a b c : State) (both : Moves f a.now b.now → Moves g b.now c.now → Moves h a.now c.now) where
  pub many_then : {X Y : Type 0} (x : X) (r : Result Y Error) → WroteMany (Moves f) a b (Ok x) → WroteMany (Moves g) b c r → WroteMany (Moves h) a c r
  many_then x (Ok y) one two = record {
    well = record {
      made = both one.well.made two.well.made;
      committed = two.well.committed ∙ one.well.committed;
      inside = λ within. two.well.inside (one.well.inside within);
    };
    kept = keeps_then a b c one.kept two.kept;
  }
  many_then x (Err e) one two = record { well = tt; kept = keeps_then a b c one.kept two.kept }

pub many_on : {X Y : Type 0} (f g : Tables → Tables) (a b c : State) (x : X) (r : Result Y Error) → WroteMany (Moves f) a b (Ok x) → WroteMany (Moves g) b c r → WroteMany (Moves (λ t. g (f t))) a c r
many_on f g a b c = many_then f g (λ t. g (f t)) a b c (λ one two t image. two (f t) (one t image))

module _ (f g : Tables → Tables) (same : (t : Tables) → HaveSameRows (f t) (g t)) (a b : State) where
  pub same_made : {X : Type 0} (r : Result X Error) → WroteMany (Moves g) a b r → WroteMany (Moves f) a b r
  same_made (Ok x) it = record {
    well = record { made = λ t image. same_rows (f t) (g t) b.now (same t) (it.well.made t image); committed = it.well.committed; inside = it.well.inside };
    kept = it.kept;
  }
  same_made (Err e) it = record { well = tt; kept = it.kept }

-- ---- lists

module _ {X : Type 0} where
  -- the elements of `xs`, each added in front of the ones before
  abbrev onto : List X → List X → List X
  onto ys xs = fold (λ zs z. z ∷ zs) ys xs

  first_behind : (xs ys : List X) (x : X) → IsPermutation (x ∷ xs ++ ys) (xs ++ x ∷ ys)
  first_behind xs ys x =
      subst (IsPermutation (x ∷ xs ++ ys)) (append_assoc xs (x ∷ []) ys) (IsPermutation-append_left ys (x ∷ xs) (xs ++ x ∷ []) (IsPermutation-append_comm (x ∷ []) xs))

  onto_same : (xs ys : List X) → IsPermutation (xs ++ ys) (onto ys xs)
  onto_same [] ys = IsPermutation-refl ys
  onto_same (x ∷ xs) ys = IsPermutation-trans (x ∷ xs ++ ys) (xs ++ x ∷ ys) (onto (x ∷ ys) xs) (first_behind xs ys x) (onto_same xs (x ∷ ys))

-- ---- tables

-- rows that are inserted into one table, one after the other
module _ {X : Type 0} (rows_of : Tables → List X) (with_rows : List X → Tables → Tables) (with_row : X → Tables → Tables)
    (own : (t : Tables) → t ≡ with_rows (rows_of t) t) (step : (x : X) (ys : List X) (t : Tables) → with_row x (with_rows ys t) ≡ with_rows (x ∷ ys) t) where
  each_onto : (xs ys : List X) (t : Tables) → with_each with_row xs (with_rows ys t) ≡ with_rows (onto ys xs) t
  each_onto [] ys t = refl
  each_onto (x ∷ xs) ys t = ap (with_each with_row xs) (step x ys t) ∙ each_onto xs (x ∷ ys) t

  each_in : (xs : List X) (t : Tables) → with_each with_row xs t ≡ with_rows (onto (rows_of t) xs) t
  each_in xs t = ap (with_each with_row xs) (own t) ∙ each_onto xs (rows_of t) t

bare_each : (bs : List StoredBatch) (t : Tables) → with_each with_bare bs t ≡ with_each with_batch (map bare bs) t
bare_each [] t = refl
bare_each (b ∷ bs) t = bare_each bs (with_bare b t)

abbrev pub all_each : Tables → Tables → Tables
all_each rows t =
    with_each with_mark rows.marks (with_each with_reply rows.replies (with_each with_remake rows.remakes
    (with_each with_blank rows.blanks (with_each with_word rows.words (with_each with_session rows.sessions
    (with_each with_grouping rows.groupings (with_each with_record rows.records (with_each with_bare rows.batches
    (with_each with_lot rows.lots (with_each with_product rows.products t))))))))))

abbrev all_onto : Tables → Tables → Tables
all_onto rows t = record {
  products = onto t.products rows.products;
  lots = onto t.lots rows.lots;
  batches = onto t.batches (map bare rows.batches);
  records = onto t.records rows.records;
  groupings = onto t.groupings rows.groupings;
  sessions = onto t.sessions rows.sessions;
  words = onto t.words rows.words;
  blanks = onto t.blanks rows.blanks;
  remakes = onto t.remakes rows.remakes;
  replies = onto t.replies rows.replies;
  marks = onto t.marks rows.marks;
}

all_in : (rows t : Tables) → all_each rows t ≡ all_onto rows t
all_in rows t =
    rw (
      each_in (λ u. u.products) (λ xs u. record u { products = xs }) with_product (λ _. refl) (λ _ _ _. refl) rows.products t,
      each_in (λ u. u.lots) (λ xs u. record u { lots = xs }) with_lot (λ _. refl) (λ _ _ _. refl) rows.lots _,
      bare_each rows.batches _,
      each_in (λ u. u.batches) (λ xs u. record u { batches = xs }) with_batch (λ _. refl) (λ _ _ _. refl) (map bare rows.batches) _,
      each_in (λ u. u.records) (λ xs u. record u { records = xs }) with_record (λ _. refl) (λ _ _ _. refl) rows.records _,
      each_in (λ u. u.groupings) (λ xs u. record u { groupings = xs }) with_grouping (λ _. refl) (λ _ _ _. refl) rows.groupings _,
      each_in (λ u. u.sessions) (λ xs u. record u { sessions = xs }) with_session (λ _. refl) (λ _ _ _. refl) rows.sessions _,
      each_in (λ u. u.words) (λ xs u. record u { words = xs }) with_word (λ _. refl) (λ _ _ _. refl) rows.words _,
      each_in (λ u. u.blanks) (λ xs u. record u { blanks = xs }) with_blank (λ _. refl) (λ _ _ _. refl) rows.blanks _,
      each_in (λ u. u.remakes) (λ xs u. record u { remakes = xs }) with_remake (λ _. refl) (λ _ _ _. refl) rows.remakes _,
      each_in (λ u. u.replies) (λ xs u. record u { replies = xs }) with_reply (λ _. refl) (λ _ _ _. refl) rows.replies _,
      each_in (λ u. u.marks) (λ xs u. record u { marks = xs }) with_mark (λ _. refl) (λ _ _ _. refl) rows.marks _,
    ) refl

all_onto_same : (rows t : Tables) → HaveSameRows (with_all (without_bytes rows) t) (all_onto rows t)
all_onto_same rows t = search onto_same

pub all_same : (rows t : Tables) → HaveSameRows (with_all (without_bytes rows) t) (all_each rows t)
all_same rows t = subst (HaveSameRows (with_all (without_bytes rows) t)) (sym (all_in rows t)) (all_onto_same rows t)

-- If the tables were empty, the rows are all rows.
with_none : (rows : Tables) → with_all rows no_rows ≡ rows
with_none rows = simp append-nil refl

pub made_alone : {X : Type 0} (rows : Tables) (a b : State) (r : Result X Error) → WroteMany (Moves (with_all rows)) a b r → OnOk r (IsImage no_rows a.now → IsImage rows b.now)
made_alone rows a b (Ok x) it = λ image. subst (λ t. IsImage t b.now) (with_none rows) (it.well.made no_rows image)
made_alone rows a b (Err e) it = tt
