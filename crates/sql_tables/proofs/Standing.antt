-- A table in the schema of a database is found by its name and by its tree number.
use Rattle.std.proofs.Common.{◌≡◌, ◌==◌, ◌<◌, ◌^◌, nat_le, ℕ, zero, suc, List, [], ◌∷◌, length, Bool, true, false, None, Some, slice_index_or, inl, inr, refl, sym, ap, subst, arith}
use Rattle.std.specs.Prelude.{find}
use Rattle.std.specs.List.{AllByRecursion, AllZip}
use Rattle.std.proofs.lemmas.Bool.Decides.{nat_tests}
use Rattle.sqlite_trees.specs.Tree.{IsAscending}
use Rattle.sqlite_rules.specs.Lists.{Has}
use Rattle.sqlite.specs.Effect.{Database, IsDatabase}
use Rattle.sqlite.specs.Order.{Row}
use Rattle.sqlite.specs.Schema.{Schema}
use Rattle.sqlite.specs.Table.{Table}
use Rattle.sqlite_schema.specs.Names.{same_name, view_named}
use Rattle.sqlite_catalog.specs.Listing.{IsTableRow}
use Rattle.sqlite_catalog.proofs.StepLemmas.{same_itself}
use Rattle.sql_tables.specs.Bare.{bare}
use Rattle.sql_tables.specs.Alike.{AreAmong, HasExactly, IsOneOf}
use Rattle.sql_tables.specs.Finds.{Finds}
use Rattle.sql_tables.specs.Ours.{AreThere, HasTable}

-- ---- the first element with a key

module _ {X : Type 0} (key : X → X → Bool) (x : X) (self : key x x ≡ true) where
  missed : (ys : List X) → Has ys x → (P : X → Type 0) → AllByRecursion P ys → P x
  missed [] has P all = absurd has
  missed (y ∷ ys) (inl same) P all = subst P (sym same) all.0
  missed (y ∷ ys) (inr more) P all = missed ys more P all.1

  -- If no two elements have the same key, every element is the first with its key.
  pub first_of : (xs : List X) → IsAscending (λ a b. key a b ≡ false) xs → Has xs x → find (λ u. key u x) xs ≡ Some x
  first_of [] apart has = absurd has
  first_of (y ∷ ys) apart (inl same) = let e : key y x ≡ true = subst (λ (z : X). key z x ≡ true) same self in rw e (ap Some (sym same))
  first_of (y ∷ ys) apart (inr more) = let e : key y x ≡ false = missed ys more (λ b. key y b ≡ false) apart.0 in rw e (first_of ys apart.1 more)

no_view : (s : Schema) (name : List ℕ) → s.views ≡ [] → view_named s name ≡ None
no_view s name none = rw none refl

pub same_number : (n : ℕ) → (n == n) ≡ true
same_number n = grind (arith, nat_tests)

-- ---- tree numbers are below 2^31

all_low : (rows : List Row) (ts : List Table) → AllZip IsTableRow rows ts → AllByRecursion (λ t. nat_le (2 ^ 31) t.tree ≡ false) ts
all_low [] [] all = tt
all_low [] (t ∷ ts) all = absurd all
all_low (r ∷ rows) [] all = absurd all
all_low (r ∷ rows) (t ∷ ts) all = let low = all.0.described.low in (grind (arith, nat_tests), all_low rows ts all.1)

pub holds_of : {X : Type 0} (P : X → Type 0) (xs : List X) (x : X) → AllByRecursion P xs → Has xs x → P x
holds_of P [] x all has = absurd has
holds_of P (y ∷ ys) x all (inl same) = subst P (sym same) all.0
holds_of P (y ∷ ys) x all (inr more) = holds_of P ys x all.1 more

-- ---- lists whose elements are all in another list

pub has_at : {X : Type 0} (xs : List X) (k : ℕ) (x : X) → k < length xs → slice_index_or xs k x ≡ x → Has xs x
has_at [] k x low is = absurd (omega arith)
has_at (y ∷ ys) zero x low is = inl (sym is)
has_at (y ∷ ys) (suc k) x low is = inr (has_at ys k x (omega arith) is)

among : (others xs : List Table) (t : Table) → AreAmong xs others → (k : ℕ) → k < length xs → slice_index_or xs k t ≡ t → IsOneOf others t
unfolding AreAmong
among others xs t all k low is = subst (IsOneOf others) is (all k t low)

rest : (others : List Table) (x : Table) (xs : List Table) → AreAmong (x ∷ xs) others → AreAmong xs others
unfolding AreAmong
rest others x xs all = λ k d low. all (suc k) d (omega arith)

pub each_one : (others xs : List Table) → AreAmong xs others → AllByRecursion (IsOneOf others) xs
each_one others [] all = tt
each_one others (x ∷ xs) all = (among others (x ∷ xs) x all 0 (omega arith) refl, each_one others xs (rest others x xs all))

-- the table of `others` that is equal to `t` except for its tree number
pub record IsAs (others : List Table) (t : Table) : Type 0 where
  pub other : Table
  pub has : Has others other
  pub same : bare t ≡ bare other

pub as_one : (others : List Table) (t : Table) → IsOneOf others t → IsAs others t
unfolding IsOneOf
as_one others t h = record { other = h.1; has = has_at others h.0 h.1 h.2 h.3; same = h.4 }

-- ---- a table in the schema

module _ (db : Database) (sound : IsDatabase db) (trees : IsAscending (λ a b. (a.tree == b.tree) ≡ false) db.schema.tables) (none : db.schema.views ≡ []) where
  placed : (t : Table) → Has db.schema.tables t → Finds db.schema t
  placed t has = record {
    named = first_of (λ a b. same_name a.name b.name) t (same_itself t.name) db.schema.tables sound.lists.listed.named has;
    numbered = first_of (λ a b. a.tree == b.tree) t (same_number t.tree) db.schema.tables trees has;
    low = holds_of (λ u. nat_le (2 ^ 31) u.tree ≡ false) db.schema.tables t (all_low _ db.schema.tables sound.lists.listed.tables) has;
    stored = no_view db.schema t.name none;
  }

  stands : (t : Table) → IsOneOf db.schema.tables t → HasTable db.schema t
  stands t h =
      let x = as_one db.schema.tables t h in
      let same : x.other ≡ record t { tree = x.other.tree } = ap (λ (u : Table). let v : Table = record u { tree = x.other.tree } in v) (sym x.same) in
      record { number = x.other.tree; finds = placed (record t { tree = x.other.tree }) (subst (Has db.schema.tables) same x.has) }

  all_stand : (xs : List Table) → AllByRecursion (IsOneOf db.schema.tables) xs → AreThere db.schema xs
  all_stand [] all = tt
  all_stand (x ∷ xs) all = (stands x all.0, all_stand xs all.1)

-- Every table of `ours` is found in a schema that has just these tables.
pub ours_in : (db : Database) (ours : Schema) → IsDatabase db → HasExactly db.schema ours → AreThere db.schema ours.tables
ours_in db ours sound h = all_stand db sound h.apart h.views ours.tables (each_one db.schema.tables ours.tables h.all)
