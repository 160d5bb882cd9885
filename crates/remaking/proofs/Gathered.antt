-- The tables of a version, in reverse order, are all tables of a schema that has just these tables.
use Rattle.std.proofs.Common.{◌≡◌, ◌==◌, ◌||◌, ℕ, List, [], ◌∷◌, Bool, true, false, Some, Option, find, inl, inr, refl, sym, ap, subst, ◌∙◌}
use Rattle.std.specs.List.{AllByRecursion, AllZip}
use Rattle.sqlite.specs.Effect.{Database, IsDatabase}
use Rattle.sqlite.specs.Order.{Row}
use Rattle.sqlite.specs.Schema.{Schema}
use Rattle.sqlite.specs.Table.{Table}
use Rattle.sqlite.specs.declared.types.Value.{Value}
use Rattle.sqlite.specs.declared.types.Value.TheVariants.{Blob, Int, Null, Real, Text}
use Rattle.sqlite_catalog.proofs.StepLemmas.{same_itself}
use Rattle.sqlite_catalog.specs.Listing.{IsDefined, IsIndexRow}
use Rattle.sqlite_rules.specs.Lists.{Has}
use Rattle.sqlite_schema.specs.Names.{same_name}
use Rattle.sqlite_schema.specs.declared.schema.Index.{Index}
use Rattle.sql_tables.specs.Alike.{HasExactly, IsOneOf}
use Rattle.sql_tables.specs.Finds.{Finds}
use Rattle.sql_tables.specs.Ours.{AreThere, HasTable}
use Rattle.sql_tables.proofs.Standing.{IsAs, as_one, each_one, first_of, holds_of, ours_in, same_number}
use Rattle.remaking.proofs.Emptied.{Stand, acts, all_apart, differ, is_among, numbers}

or_true : (x y : Bool) → y ≡ true → (x || y) ≡ true
or_true true y h = refl
or_true false y h = h

module _ (s : Schema) where
  abbrev pub gathered : (ts : List Table) → AreThere s ts → List Table → List Table
  gathered [] all done = done
  gathered (t ∷ ts) all done = gathered ts all.1 (record t { tree = all.0.number } ∷ done)

  all_found : (ts : List Table) (all : AreThere s ts) (done : List Table) → AllByRecursion (Finds s) done → AllByRecursion (Finds s) (gathered ts all done)
  all_found [] all done found = found
  all_found (t ∷ ts) all done found = all_found ts all.1 _ (all.0.finds, found)

  still_among : (ts : List Table) (all : AreThere s ts) (done : List Table) (n : ℕ) → is_among (numbers done) n ≡ true → is_among (numbers (gathered ts all done)) n ≡ true
  still_among [] all done n h = h
  still_among (t ∷ ts) all done n h = still_among ts all.1 _ n (or_true (n == all.0.number) _ h)

  -- A table that is equal to one of these tables, except for its tree number, has the tree number
  -- of that table.
  numbered_as : (ts : List Table) (all : AreThere s ts) (done : List Table) (u t : Table) → Has ts t → ((x : HasTable s t) → u.tree ≡ x.number) → is_among (numbers (gathered ts all done)) u.tree ≡ true
  numbered_as [] all done u t has is = absurd has
  numbered_as (x ∷ ts) all done u t (inl same) is =
      let n : u.tree ≡ all.0.number = subst (λ (y : Table). ((z : HasTable s y) → u.tree ≡ z.number)) same is all.0 in
      still_among ts all.1 _ u.tree (subst (λ m. (u.tree == m) || is_among (numbers done) u.tree ≡ true) n (ap (λ b. b || is_among (numbers done) u.tree) (same_number u.tree)))
  numbered_as (x ∷ ts) all done u t (inr more) is = numbered_as ts all.1 _ u t more is

tree_of : (a b : Table) (o p : Option Table) → o ≡ Some a → p ≡ Some b → o ≡ p → a.tree ≡ b.tree
tree_of a b o p x y same = let e : Some a ≡ Some b = sym x ∙ same ∙ y in let t : a ≡ b = cc in ap (λ (u : Table). u.tree) t

for_each : {X : Type 0} (P : X → Type 0) (xs : List X) → ((x : X) → Has xs x → P x) → AllByRecursion P xs
for_each P [] f = tt
for_each P (x ∷ xs) f = (f x (inl refl), for_each P xs (λ y has. f y (inr has)))

-- ---- every index belongs to a table

index_of : (t : Table) (i : Index) (v : Value) → IsDefined t i v → i.table ≡ t.tree
index_of t i Null h = ap (λ (x : Index). x.table) h.3
index_of t i (Int n) h = absurd h
index_of t i (Real x) h = absurd h
index_of t i (Text sql) h = ap (λ (x : Index). x.table) h.2
index_of t i (Blob b) h = absurd h

all_owned : (keys : List ℕ) (ts : List Table) → AllByRecursion (λ t. is_among keys t.tree ≡ true) ts → (rows : List Row) (is : List Index) → AllZip (IsIndexRow ts) rows is → AllByRecursion (λ i. is_among keys i.table ≡ true) is
all_owned keys ts among [] [] all = tt
all_owned keys ts among [] (i ∷ is) all = absurd all
all_owned keys ts among (r ∷ rows) [] all = absurd all
all_owned keys ts among (r ∷ rows) (i ∷ is) all =
    let it = all.0 in
    (subst (λ n. is_among keys n ≡ true) (sym (index_of it.table i _ it.defined)) (holds_of (λ t. is_among keys t.tree ≡ true) ts it.table among it.listed), all_owned keys ts among rows is all.1)

-- ---- all tables

module _ (db : Database) (ours : Schema) (sound : IsDatabase db) (just : HasExactly db.schema ours) (idle : AllByRecursion (λ t. acts t ≡ false) ours.tables) where
  abbrev there : AreThere db.schema ours.tables
  there = ours_in db ours sound just

  abbrev pub all_of : List Table
  all_of = gathered db.schema ours.tables there []

  like_ours : (u : Table) → Has db.schema.tables u → IsAs ours.tables u
  like_ours u has = as_one ours.tables u (holds_of (IsOneOf ours.tables) db.schema.tables u (each_one ours.tables db.schema.tables just.each) has)

  among_all : (u : Table) → Has db.schema.tables u → is_among (numbers all_of) u.tree ≡ true
  among_all u has =
      let like = like_ours u has in
      let name : u.name ≡ like.other.name = ap (λ (v : Table). v.name) like.same in
      let here : find (λ v. same_name v.name u.name) db.schema.tables ≡ Some u = first_of (λ a b. same_name a.name b.name) u (same_itself u.name) db.schema.tables sound.lists.listed.named has in
      numbered_as db.schema ours.tables there [] u like.other like.has (λ x. tree_of u (record like.other { tree = x.number }) _ _ here x.finds.named (ap (λ m. find (λ (v : Table). same_name v.name m) db.schema.tables) name))

  quiet_all : (u : Table) → Has db.schema.tables u → acts u ≡ false
  quiet_all u has =
      let like = like_ours u has in
      ap acts like.same ∙ holds_of (λ t. acts t ≡ false) ours.tables like.other idle like.has

  pub all_stand : differ all_of ≡ true → Stand all_of db.schema
  all_stand names =
      let found = all_found db.schema ours.tables there [] tt in
      let tables = for_each (λ t. is_among (numbers all_of) t.tree ≡ true) db.schema.tables among_all in
      record {
        found = found;
        apart = all_apart db.schema all_of found names;
        only = record {
          quiet = for_each (λ t. acts t ≡ false) db.schema.tables quiet_all;
          tables = tables;
          indexes = all_owned (numbers all_of) db.schema.tables tables _ db.schema.indexes sound.lists.listed.indexes;
          views = just.views;
        };
      }
