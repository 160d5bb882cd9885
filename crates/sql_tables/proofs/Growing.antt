-- Tables and indexes are created one after the other, and no row is inserted.
use Rattle.std.proofs.Common.{◌≡◌, ◌++◌, ℕ, List, [], ◌∷◌, false, Ok, Some, slice_get, ap, subst, sym, ◌∙◌}
use Rattle.std.specs.Prelude.{fold}
use Rattle.std.specs.List.{AllByRecursion}
use Rattle.sqlite.specs.Change.{KeepsRows, created, indexed, next_tree}
use Rattle.sqlite.specs.Command.TheVariants.{CreateIndex, CreateTable}
use Rattle.sqlite.specs.Compile.{index_defined_by, table_defined_by}
use Rattle.sqlite.specs.Does.{lacks_sequence}
use Rattle.sqlite.specs.Effect.{Database}
use Rattle.sqlite.specs.Given.{IsPlain}
use Rattle.sqlite.specs.Listing.{understood}
use Rattle.sqlite.specs.Schema.{Schema}
use Rattle.sqlite.specs.Table.{Table}
use Rattle.sqlite.specs.Tree.{Trees}
use Rattle.sqlite.proofs.Callers.{command_of, statement_of}
use Rattle.sqlite_schema.specs.declared.schema.Index.{Index}
use Rattle.sql_base.specs.Making.{Defines, DefinesIndex}
use Rattle.sql_tables.specs.Each.{Each}
use Rattle.sql_tables.specs.Opening.{IsEmptyAt, Makes}

abbrev AreEmpty : List Table → Trees → Type 0
AreEmpty tables trees = AllByRecursion (λ t. trees t.tree ≡ []) tables

still_empty : (tables : List Table) (old new : Trees) → KeepsRows tables old new → AreEmpty tables old → AreEmpty tables new
still_empty [] old new same empty = tt
still_empty (t ∷ tables) old new same empty = (same.0 ∙ empty.0, still_empty tables old new same.1 empty.1)

one_more : (tables : List Table) (t : Table) (trees : Trees) → AreEmpty tables trees → trees t.tree ≡ [] → AreEmpty (tables ++ t ∷ []) trees
one_more [] t trees empty new = (new, tt)
one_more (u ∷ tables) t trees empty new = (empty.0, one_more tables t trees empty.1 new)

-- ---- tables

abbrev all_four : {A B C D : Type 0} → A → B → C → D → A × (B × (C × D))
all_four a b c d = (a, (b, (c, d)))

-- Everything that shows that `sql` defines table `t` in the schema `s`, in a form that `refl`
-- computes at once.
abbrev IsRead : List ℕ → Schema → Table → Type 0
IsRead sql s t =
    IsPlain (understood s sql)
    × (all_four (command_of (understood s sql)) (statement_of sql (understood s sql)) (table_defined_by sql) (lacks_sequence (created s t)) ≡ all_four CreateTable sql (Ok t) false)

read_defines : (sql : List ℕ) (s : Schema) (t : Table) → IsRead sql s t → Defines sql s t
read_defines sql s t it = record { command = ap (λ x. x.0) it.1; text = ap (λ x. x.1.0) it.1; plain = it.0; table_is = ap (λ x. x.1.1.0) it.1; uncounted = ap (λ x. x.1.1.1) it.1 }

-- The texts define these tables, one table each, added to the tables of the schema.
abbrev pub AreDefined : Schema → List (List ℕ) → List Table → Type 0
AreDefined s [] [] = Unit {0}
AreDefined s [] (t ∷ ts) = ⊥
AreDefined s (sql ∷ texts) [] = ⊥
AreDefined s (sql ∷ texts) (t ∷ ts) = IsRead sql s t × AreDefined (created s t) texts ts

pub more_defined : (texts more : List (List ℕ)) (ts us : List Table) (s : Schema) → AreDefined s texts ts → AreDefined (fold created s ts) more us → AreDefined s (texts ++ more) (ts ++ us)
more_defined [] more [] us s are rest = rest
more_defined [] more (t ∷ ts) us s are rest = absurd are
more_defined (sql ∷ texts) more [] us s are rest = absurd are
more_defined (sql ∷ texts) more (t ∷ ts) us s are rest = (are.0, more_defined texts more ts us (created s t) are.1 rest)

grows : (sql : List ℕ) (s : Schema) (t : Table) (old new : Database) → Defines sql s t → Makes sql old new → IsEmptyAt s old → IsEmptyAt (created s t) new
grows sql s t old new is makes from =
    let made = makes.0 s t from.schema_is is in
    record {
      schema_is = made.made;
      empty = one_more s.tables (record t { tree = next_tree s }) new.trees (still_empty s.tables old.trees new.trees made.others from.empty) made.empty;
    }

pub all_grow : (texts : List (List ℕ)) (ts : List Table) (s : Schema) (old new : Database) → AreDefined s texts ts → Each Makes texts old new → IsEmptyAt s old → IsEmptyAt (fold created s ts) new
all_grow [] [] s old new are same from = subst (IsEmptyAt s) (sym same) from
all_grow [] (t ∷ ts) s old new are made from = absurd are
all_grow (sql ∷ texts) [] s old new are made from = absurd are
all_grow (sql ∷ texts) (t ∷ ts) s old new are made from = all_grow texts ts (created s t) made.0 new are.1 made.2 (grows sql s t old made.0 (read_defines sql s t are.0) made.1 from)

-- ---- indexes

-- an index of the table at position `at`
pub record Keyed : Type 0 where
  pub at : ℕ
  pub table : Table
  pub index : Index

abbrev pub with_index : Schema → Keyed → Schema
with_index s k = indexed s k.table k.index

abbrev IsReadIndex : List ℕ → Schema → Keyed → Type 0
IsReadIndex sql s k =
    IsPlain (understood s sql)
    × (all_four (command_of (understood s sql)) (statement_of sql (understood s sql)) (slice_get s.tables k.at) (index_defined_by k.table sql) ≡ all_four (CreateIndex k.at) sql (Some k.table) (Ok k.index))

read_indexes : (sql : List ℕ) (s : Schema) (k : Keyed) → IsReadIndex sql s k → DefinesIndex sql s k.at k.table k.index
read_indexes sql s k it = record { command = ap (λ x. x.0) it.1; text = ap (λ x. x.1.0) it.1; plain = it.0; listed = ap (λ x. x.1.1.0) it.1; index_is = ap (λ x. x.1.1.1) it.1 }

abbrev pub AreIndexed : Schema → List (List ℕ) → List Keyed → Type 0
AreIndexed s [] [] = Unit {0}
AreIndexed s [] (k ∷ ks) = ⊥
AreIndexed s (sql ∷ texts) [] = ⊥
AreIndexed s (sql ∷ texts) (k ∷ ks) = IsReadIndex sql s k × AreIndexed (with_index s k) texts ks

indexes : (sql : List ℕ) (s : Schema) (k : Keyed) (old new : Database) → DefinesIndex sql s k.at k.table k.index → Makes sql old new → IsEmptyAt s old → IsEmptyAt (with_index s k) new
indexes sql s k old new is makes from =
    let made = makes.1 s k.at k.table k.index from.schema_is is in
    record { schema_is = made.made; empty = still_empty s.tables old.trees new.trees made.rows from.empty }

pub all_indexed : (texts : List (List ℕ)) (ks : List Keyed) (s : Schema) (old new : Database) → AreIndexed s texts ks → Each Makes texts old new → IsEmptyAt s old → IsEmptyAt (fold with_index s ks) new
all_indexed [] [] s old new are same from = subst (IsEmptyAt s) (sym same) from
all_indexed [] (k ∷ ks) s old new are made from = absurd are
all_indexed (sql ∷ texts) [] s old new are made from = absurd are
all_indexed (sql ∷ texts) (k ∷ ks) s old new are made from = all_indexed texts ks (with_index s k) made.0 new are.1 made.2 (indexes sql s k old made.0 (read_indexes sql s k are.0) made.1 from)
