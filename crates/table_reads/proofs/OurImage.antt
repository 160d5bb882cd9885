-- In the current schema: the rows that a database holds, and its image.
use Rattle.std.proofs.Common.{◌≡◌, ◌==◌, ◌<◌, ℕ, zero, suc, false, List, [], ◌∷◌, length, slice_index_or, refl, sym, subst, arith}
use Rattle.std.specs.List.{AllByRecursion}
use Rattle.std.specs.List.Sorted.{IsPermutation}
use Rattle.sqlite_trees.specs.Tree.{IsAscending}
use Rattle.sqlite_schema.specs.Names.{same_name}
use Rattle.sqlite.specs.Effect.{Database, IsDatabase}
use Rattle.sqlite.specs.Table.{Table}
use Rattle.sql_base.specs.Rowids.{AreApart}
use Rattle.sql_tables.specs.Tables.{our_schema}
use Rattle.sql_rows.specs.Image.{Filled, IsFilled, IsImage, filled, given_rows}
use Rattle.table_rows.specs.Tables.{Tables}
use Rattle.sql_tables.specs.Alike.{AreAmong, HasExactly, HasNoFurtherKey, IsOneOf, is_no_further_key}
use Rattle.sql_tables.specs.Finds.{Finds}
use Rattle.sql_tables.specs.declared.versions.Version.{Version}
use Rattle.sql_tables.specs.declared.versions.Version.TheVariants.{Three}
use Rattle.table_reads.specs.Rowids.{HasRowidsApart, StandAsMade}
use Rattle.table_reads.proofs.Found.{all_found}
use Rattle.table_reads.proofs.ReadRows.{to_all}
use Rattle.table_reads.specs.Holding.{Holds, HoldsRows}
use Rattle.table_reads.proofs.OneVersion.{one_number, ours_alone}

-- ---- a table that is filled, and its rows that are held

each_both : {X : Type 0} (P Q R : X → Type 0) → ((x : X) → P x → Q x → R x) → (xs : List X) → AllByRecursion P xs → AllByRecursion Q xs → AllByRecursion R xs
each_both P Q R law [] one two = tt
each_both P Q R law (x ∷ xs) one two = (law x one.0 two.0, each_both P Q R law xs one.1 two.1)

-- The database holds the rows in the table, under any tree number.
abbrev IsHeld : Database → Filled → Type 0
IsHeld db x = Holds (λ n. record x.table { tree = n }) x.by_rowid x.rows db

-- The table is found, and its rowids are different.
abbrev IsReady : Database → Filled → Type 0
IsReady db x = Finds our_schema x.table × AreApart (db.trees x.table.tree)

ready : (db : Database) (xs : List Filled) → AllByRecursion (λ x. Finds our_schema x.table) xs → AllByRecursion (λ x. AreApart (db.trees x.table.tree)) xs → AllByRecursion (IsReady db) xs
ready db = each_both (λ x. Finds our_schema x.table) (λ x. AreApart (db.trees x.table.tree)) (IsReady db) (λ x found apart. (found, apart))

module _ (db : Database) (ours : db.schema ≡ our_schema) where
  is_filled : (x : Filled) → IsReady db x → IsHeld db x → IsFilled x db.trees
  is_filled x is held =
      let table = λ (n : ℕ). record x.table { tree = n } in
      let e = one_number our_schema table held.number x.table.tree (record { named = λ n m. refl; numbered = λ n. refl }) (subst (λ s. Finds s (table held.number)) ours held.finds) is.0 in
      record { rows = subst (λ n. IsPermutation x.rows (given_rows x.by_rowid (db.trees n))) e held.rows_are; apart = is.1 }

  is_held : (x : Filled) → Finds our_schema x.table → IsFilled x db.trees → IsHeld db x
  is_held x found filled = record { number = x.table.tree; finds = subst (λ s. Finds s x.table) (sym ours) found; rows_are = filled.rows }

-- ---- rows that are held fill the tables

our_image : (t : Tables) (db : Database) → HoldsRows Three t db → IsDatabase db → db.schema ≡ our_schema → HasRowidsApart db → IsImage t db
our_image t db held sound ours apart =
    let all : AllByRecursion (IsHeld db) (filled t) = assumption in
    record {
      ours = ours;
      is_database = sound;
      each = each_both (IsReady db) (IsHeld db) (λ x. IsFilled x db.trees) (is_filled db ours) (filled t) (ready db (filled t) all_found apart) all;
    }

-- If the rows are held in the tables of any version, it is version 3.
pub held_image : (v : Version) (t : Tables) (db : Database) → HoldsRows v t db → IsDatabase db → StandAsMade db → IsImage t db
held_image v t db held sound stand = our_image t db (subst (λ w. HoldsRows w t db) (ours_alone v db held.version stand.0) held) sound stand.0 stand.1

pub image_stands : (t : Tables) (db : Database) → IsImage t db → StandAsMade db
image_stands t db image = (image.ours, each_both (λ x. IsFilled x db.trees) (λ x. IsFilled x db.trees) (λ x. AreApart (db.trees x.table.tree)) (λ x filled _. filled.apart) (filled t) image.each image.each)

-- ---- rows that fill the tables are held

-- The element at a valid index doesn't depend on the default.
itself : {X : Type 0} (xs : List X) (k : ℕ) (d : X) → k < length xs → slice_index_or xs k (slice_index_or xs k d) ≡ slice_index_or xs k d
itself [] k d low = absurd (omega arith)
itself (x ∷ xs) zero d low = refl
itself (x ∷ xs) (suc k) d low = itself xs k d (omega arith)

among_itself : (tables : List Table) → AreAmong tables tables
unfolding AreAmong IsOneOf
among_itself tables k d low = (k, slice_index_or tables k d, low, itself tables k d low, refl)

apart_numbers : IsAscending (λ (t u : Table). (t.tree == u.tree) ≡ false) our_schema.tables
apart_numbers = assumption

own_keys : AllByRecursion is_no_further_key our_schema.indexes
unfolding same_name
own_keys = assumption

no_further_key : HasNoFurtherKey our_schema.indexes
unfolding HasNoFurtherKey
no_further_key = to_all is_no_further_key our_schema.indexes own_keys

just_ours : HasExactly our_schema our_schema
just_ours = record { each = among_itself our_schema.tables; all = among_itself our_schema.tables; apart = apart_numbers; keys = no_further_key; views = refl }

pub our_image_held : (t : Tables) (db : Database) → IsImage t db → HoldsRows Three t db
our_image_held t db image =
    let just = subst (λ s. HasExactly s our_schema) (sym image.ours) just_ours in
    let held = each_both (λ x. Finds our_schema x.table) (λ x. IsFilled x db.trees) (IsHeld db) (is_held db image.ours) (filled t) all_found image.each in
    assumption
