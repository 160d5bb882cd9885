-- A database holds its rows in any order.
use Rattle.std.proofs.Common.{◌≡◌, ℕ, Bool, List, [], ◌∷◌, map, refl, subst}
use Rattle.std.specs.List.Sorted.{IsPermutation}
use Rattle.std.proofs.lemmas.List.Sorted.{IsPermutation-map, IsPermutation-trans, length_permutation}
use Rattle.sqlite.specs.Effect.{Database}
use Rattle.sqlite.specs.Order.{Row}
use Rattle.sqlite.specs.Table.{Table}
use Rattle.job_facts.specs.Contents.{Mark}
use Rattle.table_rows.specs.Tables.{HaveSameRows, Tables}
use Rattle.sql_rows.specs.Encoding.{mark_row}
use Rattle.sql_tables.specs.declared.versions.Version.{Version}
use Rattle.sql_tables.specs.declared.versions.Version.TheVariants.{One, Two, Three}
use Rattle.table_reads.specs.Holding.{Holds, HoldsMarks, HoldsRows}

reordered : {X : Type 0} {table : ℕ → Table} {by_rowid : Bool} {db : Database} (encode : X → Row) (xs ys : List X) → IsPermutation xs ys
    → Holds table by_rowid (map encode ys) db → Holds table by_rowid (map encode xs) db
reordered encode xs ys same held = record {
  number = held.number;
  finds = held.finds;
  rows_are = IsPermutation-trans (map encode xs) (map encode ys) _ (IsPermutation-map encode xs ys same) held.rows_are;
}

none_in : {X : Type 0} (xs : List X) → IsPermutation xs [] → xs ≡ []
none_in [] same = refl
none_in (x ∷ xs) same = absurd (let e = length_permutation _ _ same in cc)

marks_reordered : (v : Version) (db : Database) (ms ns : List Mark) → IsPermutation ms ns → HoldsMarks v ns db → HoldsMarks v ms db
marks_reordered One db ms ns same held = none_in ms (subst (IsPermutation ms) held same)
marks_reordered Two db ms ns same held = reordered mark_row ms ns same held
marks_reordered Three db ms ns same held = reordered mark_row ms ns same held

pub any_order : (v : Version) (t u : Tables) (db : Database) → HaveSameRows t u → HoldsRows v u db → HoldsRows v t db
any_order v t u db same held = search (reordered, marks_reordered)
