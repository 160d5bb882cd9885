-- A table has only one tree number, and a database has the tables of only one version.
use Rattle.std.proofs.Common.{◌≡◌, ◌<◌, ◌∙◌, ℕ, zero, suc, true, pos, drop, List, [], ◌∷◌, Option, Some, None, slice_index_or, refl, sym, ap, subst, arith}
use Rattle.std.specs.Prelude.{find}
use Rattle.std.specs.List.Sorted.{IsPermutation}
use Rattle.std.proofs.lemmas.List.Sorted.{All-permutation, IsPermutation-sym, IsPermutation-trans}
use Rattle.sqlite.specs.Effect.{Database}
use Rattle.sqlite.specs.Order.{Row}
use Rattle.sqlite.specs.Schema.{Schema}
use Rattle.sqlite.specs.Table.{Table}
use Rattle.sqlite.specs.Term.{Term, col, lit}
use Rattle.sqlite.specs.declared.types.Value.TheVariants.{Int}
use Rattle.sqlite_schema.specs.Names.{same_name}
use Rattle.sql_base.specs.Queries.{is_equal}
use Rattle.sql_rows.specs.Image.{given_rows}
use Rattle.sql_tables.specs.Finds.{Finds}
use Rattle.sql_tables.specs.Tables.{our_schema}
use Rattle.sql_tables.specs.Versions.{numbered_version_at}
use Rattle.sql_tables.specs.declared.versions.Version.{Version}
use Rattle.sql_tables.specs.declared.versions.Version.TheVariants.{One, Two, Three}
use Rattle.sql_rows.specs.Decoding.{number_in}
use Rattle.sqlite.specs.Order.{column}
use Rattle.table_reads.specs.Version.{numbered_row}
use Rattle.table_reads.specs.Holding.{SaysVersion, number_of}
use Rattle.table_reads.proofs.Found.{all_found}

-- the tree number of the table that was found
abbrev tree_in : Option Table → ℕ
tree_in None = 0
tree_in (Some t) = t.tree

-- Two tables that are found and have the same name have the same tree number.
one_tree : (s : Schema) (t u : Table) → t.name ≡ u.name → Finds s t → Finds s u → t.tree ≡ u.tree
one_tree s t u named one two = ap tree_in (sym one.named ∙ ap (λ name. find (λ x. same_name x.name name) s.tables) named ∙ two.named)

-- The table has the same name under any tree number.
pub record IsNumbered (table : ℕ → Table) : Type 0 where
  pub named : (n m : ℕ) → (table n).name ≡ (table m).name
  pub numbered : (n : ℕ) → (table n).tree ≡ n

pub one_number : (s : Schema) (table : ℕ → Table) (n m : ℕ) → IsNumbered table → Finds s (table n) → Finds s (table m) → n ≡ m
one_number s table n m is one two = sym (is.numbered n) ∙ one_tree s (table n) (table m) (is.named n m) one two ∙ is.numbered m

-- ---- the version

pub one_row : (a b : Row) → IsPermutation (a ∷ []) (b ∷ []) → a ≡ b
one_row a b same = sym (All-permutation (λ x. x ≡ a) _ _ same at 0 b (omega arith))
  where
    at : (k : ℕ) (d : Row) → k < 1 → slice_index_or (a ∷ []) k d ≡ a
    at zero d low = refl
    at (suc k) d low = absurd (omega arith)

pub one_version_number : (v w : Version) (db : Database) → SaysVersion v db → SaysVersion w db → number_of v ≡ number_of w
one_version_number v w db one two =
    let n = number_of v in
    let m = number_of w in
    let e : one.number ≡ two.number = one_tree db.schema (numbered_version_at n one.number) (numbered_version_at m two.number) refl one.finds two.finds in
    let there : IsPermutation (numbered_row m ∷ []) (given_rows true (db.trees one.number)) = subst (λ k. IsPermutation (numbered_row m ∷ []) (given_rows true (db.trees k))) (sym e) two.rows_are in
    ap (λ row. number_in (column row 2)) (one_row (numbered_row n) (numbered_row m) (IsPermutation-trans _ _ _ one.rows_are (IsPermutation-sym _ _ there)))

numbered_alike : (v w : Version) → number_of v ≡ number_of w → v ≡ w
numbered_alike One One e = refl
numbered_alike One Two e = absurd (omega (arith, e))
numbered_alike One Three e = absurd (omega (arith, e))
numbered_alike Two One e = absurd (omega (arith, e))
numbered_alike Two Two e = refl
numbered_alike Two Three e = absurd (omega (arith, e))
numbered_alike Three One e = absurd (omega (arith, e))
numbered_alike Three Two e = absurd (omega (arith, e))
numbered_alike Three Three e = refl

pub one_version : (v w : Version) (db : Database) → SaysVersion v db → SaysVersion w db → v ≡ w
one_version v w db one two = numbered_alike v w (one_version_number v w db one two)

-- the check with the version number
abbrev number_named : Option Table → List Term
number_named None = []
number_named (Some t) = drop 1 t.checks

-- In the current schema, the version is version 3.
pub ours_alone : (v : Version) (db : Database) → SaysVersion v db → db.schema ≡ our_schema → v ≡ Three
ours_alone v db says ours = numbered_alike v Three (at (number_of v) says.number (subst (λ s. Finds s (numbered_version_at (number_of v) says.number)) ours says.finds))
  where
    one_number_named : (n m : ℕ) → is_equal (col 1 2) (lit (Int (pos n))) ∷ [] ≡ is_equal (col 1 2) (lit (Int (pos m))) ∷ [] → n ≡ m
    one_number_named n m e = cc

    at : (n tree : ℕ) → Finds our_schema (numbered_version_at n tree) → n ≡ 3
    at n tree finds = one_number_named n 3 (ap number_named (sym finds.named ∙ all_found.0.named))
