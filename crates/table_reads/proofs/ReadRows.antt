-- The relation between the rows that a query of a whole table returns and the stored rows.
use Rattle.std.proofs.Common.{◌≡◌, ℕ, MatchOption, None, Option, Some, zero, suc, Bool, true, false, List, [], ◌∷◌, map, All, refl, sym, ap, ap₂, subst, ◌∙◌, arith}
use Rattle.std.specs.List.{AllByRecursion, AllZip}
use Rattle.std.specs.List.Sorted.{IsPermutation}
use Rattle.std.proofs.lemmas.List.Sorted.{All-permutation, IsPermutation-map, IsPermutation-sym, IsPermutation-trans}
use Rattle.sqlite.specs.Effect.{Database, IsDatabase}
use Rattle.sqlite.specs.Order.{Row}
use Rattle.sqlite.specs.Table.{Table}
use Rattle.sqlite_schema.specs.Names.{same_name}
use Rattle.sqlite_schema.specs.Rules.{passes as keeps}
use Rattle.sqlite_schema.specs.declared.schema.Constraint.{Constraint}
use Rattle.sqlite_schema.specs.declared.schema.Constraint.TheVariants.{Datatype, NotNull}
use Rattle.sql_tables.specs.Finds.{Finds}
use Rattle.sql_rows.specs.Image.{given_rows}
use Rattle.table_reads.specs.Converted.{AreConverted}
use Rattle.table_reads.specs.declared.reads.TableRows.{TableRows}
use Rattle.table_reads.specs.Reading.{HasAll}
use Rattle.table_reads.specs.Whole.{AreShown, IsWhole, NoneFit, as_stored, columns_of, stored_row, with_rowid}
use Rattle.sql_tables.proofs.Lookups.{all_at, is_at}

-- ---- the rows of a query for a whole table

given_is : (by_rowid : Bool) (rows : List Row) → map (stored_row by_rowid) rows ≡ given_rows by_rowid rows
given_is false rows = refl
given_is true [] = refl
given_is true (r ∷ rows) = ap (λ rs. r ∷ rs) (given_is true rows)

each_shown : (show : Row → Row) (by_rowid : Bool) (P Q : Row → Type 0) → ((r : Row) → P r → Q r → as_stored by_rowid (show r) ≡ stored_row by_rowid r) → (rows : List Row) → AllByRecursion P rows → AllByRecursion Q rows
    → map (as_stored by_rowid) (map show rows) ≡ map (stored_row by_rowid) rows
each_shown show by_rowid P Q shows [] ps qs = refl
each_shown show by_rowid P Q shows (r ∷ rows) ps qs = ap₂ ◌∷◌ (shows r ps.0 qs.0) (each_shown show by_rowid P Q shows rows ps.1 qs.1)

-- a constraint that is true of every row of a table that is found
pub each_keeps : (c : Constraint) (db : Database) → IsDatabase db → (table : ℕ → Table) (tree : ℕ) → (table tree).tree ≡ tree → Finds db.schema (table tree) → AllByRecursion (λ r. keeps c db.schema db.trees (table tree) r ≡ true) (db.trees tree)
each_keeps c db sound table tree numbered f =
    let s = db.schema in
    let t = table tree in
    let place = is_at (λ u. same_name u.name t.name) s.tables t f.named in
    subst (λ n. AllByRecursion (λ r. keeps c s db.trees t r ≡ true) (db.trees n)) numbered (all_at (λ u. AllByRecursion (λ r. keeps c s db.trees u r ≡ true) (db.trees u.tree)) s.tables place.at t (sound.obeys.rules c) place.there)

pub exact : (sql : List ℕ) (table : ℕ → Table) (by_rowid : Bool) (whole : IsWhole sql table by_rowid) (db : Database) → IsDatabase db → (tree : ℕ) → Finds db.schema (table tree)
    → (rows : List Row) (apart : Bool) → AreShown (with_rowid whole.columns) (db.trees tree) rows apart → IsPermutation (map (as_stored by_rowid) rows) (given_rows by_rowid (db.trees tree))
exact sql table by_rowid whole db sound tree f rows apart shown =
    let numbered = whole.numbered tree in
    let s = db.schema in
    let t = table tree in
    let columns = with_rowid whole.columns in
    let same : map (as_stored by_rowid) (map (columns_of columns) (db.trees tree)) ≡ given_rows by_rowid (db.trees tree) =
    each_shown (columns_of columns) by_rowid (λ r. keeps Datatype s db.trees t r ≡ true) (λ r. keeps NotNull s db.trees t r ≡ true) (λ r. whole.shows s db.trees tree r) (db.trees tree)
    (each_keeps Datatype db sound table tree numbered f) (each_keeps NotNull db sound table tree numbered f)
    ∙ given_is by_rowid (db.trees tree) in
    IsPermutation-sym _ _ (subst (λ xs. IsPermutation xs (map (as_stored by_rowid) rows)) same (IsPermutation-map (as_stored by_rowid) _ _ shown.rows))

-- ---- typed rows

pub from_all : {X : Type 0} (P : X → Type 0) (xs : List X) → All P xs → AllByRecursion P xs
from_all P [] all = tt
from_all P (x ∷ xs) all = (all 0 x (omega arith), from_all P xs (λ k d low. all (suc k) d (omega arith)))

pub to_all : {X : Type 0} (P : X → Type 0) (xs : List X) → AllByRecursion P xs → All P xs
to_all P [] all k d low = absurd (omega arith)
to_all P (x ∷ xs) all zero d low = all.0
to_all P (x ∷ xs) all (suc k) d low = to_all P xs all.1 k d (omega arith)

each_encoded : {X : Type 0} (encode : X → Row) (fits : X → Type 0) (Q : Row → Type 0) → ((x : X) → fits x → Q (encode x)) → (xs : List X) → AllByRecursion fits xs → AllByRecursion Q (map encode xs)
each_encoded encode fits Q law [] all = tt
each_encoded encode fits Q law (x ∷ xs) all = (law x all.0, each_encoded encode fits Q law xs all.1)

each_behind : (f : Row → Row) (P : Row → Type 0) (rows : List Row) → AllByRecursion (λ s. (r : Row) → f r ≡ s → P r) (map f rows) → AllByRecursion P rows
each_behind f P [] all = tt
each_behind f P (r ∷ rows) all = (all.0 r refl, each_behind f P rows all.1)

-- If the stored rows encode typed rows in range, the rows of the query have the shape of the table.
pub shaped : {X : Type 0} (encode : X → Row) (fits : X → Type 0) (f : Row → Row) (IsShaped : Row → Type 0) → ((x : X) → fits x → (r : Row) → f r ≡ encode x → IsShaped r) → (rows : List Row) (stored : List Row)
    → IsPermutation (map f rows) stored → (xs : List X) → All fits xs → IsPermutation (map encode xs) stored → All IsShaped rows
shaped encode fits f IsShaped law rows stored is xs all same =
    let Behind : Row → Type 0 = λ s. (r : Row) → f r ≡ s → IsShaped r in
    let encoded : AllByRecursion Behind (map encode xs) = each_encoded encode fits Behind law xs (from_all fits xs all) in
    let both : IsPermutation (map encode xs) (map f rows) = IsPermutation-trans _ stored _ same (IsPermutation-sym _ _ is) in
    let here : All Behind (map f rows) = All-permutation Behind _ _ both (to_all Behind (map encode xs) encoded) in
    to_all IsShaped rows (each_behind f IsShaped rows (from_all Behind (map f rows) here))

none_read : {X : Type 0} (encode : X → Row) (fits : X → Type 0) (by_rowid : Bool) (IsShaped : Row → Type 0) → ((x : X) → fits x → (r : Row) → as_stored by_rowid r ≡ encode x → IsShaped r) → (rows : List Row) (stored : List Row)
    → IsPermutation (map (as_stored by_rowid) rows) stored → (All IsShaped rows → ⊥) → NoneFit encode fits stored
none_read encode fits by_rowid IsShaped law rows stored is none = λ xs all same. none (shaped encode fits (as_stored by_rowid) IsShaped law rows stored is xs all same)

-- ---- the result of reading a whole table

zip_maps : {X : Type 0} (encode : X → Row) (f : Row → Row) (rows : List Row) (xs : List X) → AllZip (λ r x. encode x ≡ f r) rows xs → map encode xs ≡ map f rows
zip_maps encode f [] [] all = refl
zip_maps encode f [] (x ∷ xs) all = absurd all
zip_maps encode f (r ∷ rows) [] all = absurd all
zip_maps encode f (r ∷ rows) (x ∷ xs) all = ap₂ ◌∷◌ all.0 (zip_maps encode f rows xs all.1)

module _ {X : Type 0} (encode : X → Row) (fits : X → Type 0) (by_rowid : Bool) (IsShaped : Row → Type 0) (law : (x : X) → fits x → (r : Row) → as_stored by_rowid r ≡ encode x → IsShaped r) where
  pub whole_found : (sql : List ℕ) (table : ℕ → Table) (whole : IsWhole sql table by_rowid) (db : Database) → IsDatabase db → (found : Option (TableRows X)) → AreConverted IsShaped (λ r x. encode x ≡ as_stored by_rowid r) sql db found
      → (tree : ℕ) → Finds db.schema (table tree)
      → MatchOption found (NoneFit encode fits (given_rows by_rowid (db.trees tree))) (HasAll encode by_rowid (db.trees tree))
  whole_found sql table whole db sound None read tree f =
      let l = read tree whole.columns (whole.asks db.schema tree f) in
      none_read encode fits by_rowid IsShaped law l.rows (given_rows by_rowid (db.trees tree)) (exact sql table by_rowid whole db sound tree f l.rows l.apart l.shown) l.lack
  whole_found sql table whole db sound (Some all) read tree f =
      let a = read tree whole.columns (whole.asks db.schema tree f) in
      (subst (λ xs. IsPermutation xs (given_rows by_rowid (db.trees tree))) (sym (zip_maps encode (as_stored by_rowid) a.rows all.rows.items a.values)) (exact sql table by_rowid whole db sound tree f a.rows all.apart a.shown), a.shown.apart_is)
