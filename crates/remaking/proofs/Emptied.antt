-- Dropping the tables one after the other leaves no table.
use Rattle.std.proofs.Common.{◌≡◌, ◌==◌, ◌&&◌, ◌||◌, ℕ, List, [], ◌∷◌, Bool, true, false, Some, not, filter, find, map, is_some, inl, inr, refl, sym, ap, subst, ◌∙◌, arith}
use Rattle.std.specs.List.{AllByRecursion, AllZip, list_any}
use Rattle.std.specs.Prelude.{bytes_eq}
use Rattle.std.proofs.lemmas.Bool.{cases_Bool}
use Rattle.std.proofs.lemmas.Bool.Decides.{nat_tests}
use Rattle.sqlite.specs.Change.{without_table}
use Rattle.sqlite.specs.Does.{is_acted_on}
use Rattle.sqlite.specs.Effect.{Database}
use Rattle.sqlite.specs.Schema.{Schema}
use Rattle.sqlite.specs.Table.{Table}
use Rattle.sqlite_rules.specs.Action.{deed_for}
use Rattle.sqlite_schema.specs.Names.{same_name}
use Rattle.sqlite_schema.specs.declared.schema.Keys.TheVariants.{Enforced}
use Rattle.sqlite_schema.specs.declared.schema.Reference.{Reference}
use Rattle.sqlite_trees.specs.Tree.{IsAscending}
use Rattle.std.proofs.lemmas.Slice.Eq.{bytes_eq-Decides}
use Rattle.sql_base.specs.Columns.{no_schema}
use Rattle.sql_tables.specs.Finds.{Finds}
use Rattle.sql_tables.proofs.Lookups.{find_filter}
use Rattle.sql_tables.specs.Each.{Each}
use Rattle.remaking.specs.Drop.{DropsTable, IsDrop}

-- No foreign key of the table acts when the row to which it refers is deleted.
abbrev pub acts : Table → Bool
acts t = list_any (λ ref. is_some (deed_for Enforced true ref)) t.references

abbrev pub is_among : List ℕ → ℕ → Bool
is_among keys n = list_any (λ k. n == k) keys

abbrev pub numbers : List Table → List ℕ
numbers ts = map (λ t. t.tree) ts

-- The schema has only tables with tree numbers in `keys`, and indexes on these tables.
pub record HasOnly (keys : List ℕ) (s : Schema) : Type 0 where
  pub quiet : AllByRecursion (λ t. acts t ≡ false) s.tables
  pub tables : AllByRecursion (λ t. is_among keys t.tree ≡ true) s.tables
  pub indexes : AllByRecursion (λ i. is_among keys i.table ≡ true) s.indexes
  pub views : s.views ≡ []

pub record Stand (ts : List Table) (s : Schema) : Type 0 where
  pub found : AllByRecursion (Finds s) ts
  pub apart : IsAscending (λ a b. (b.tree == a.tree) ≡ false) ts
  pub only : HasOnly (numbers ts) s

all_filter : {X : Type 0} (P : X → Type 0) (g : X → Bool) (xs : List X) → AllByRecursion P xs → AllByRecursion P (filter g xs)
all_filter P g [] all = tt
all_filter P g (x ∷ xs) all = elim (cases_Bool (g x)) [ inl kept ↦ rw kept ((all.0, all_filter P g xs all.1)) | inr gone ↦ rw gone (all_filter P g xs all.1) ]

-- The remaining elements are among the other keys.
fewer : {X : Type 0} (key : X → ℕ) (k : ℕ) (keys : List ℕ) (xs : List X) → AllByRecursion (λ x. is_among (k ∷ keys) (key x) ≡ true) xs
    → AllByRecursion (λ x. is_among keys (key x) ≡ true) (filter (λ x. not (key x == k)) xs)
fewer key k keys [] all = tt
fewer key k keys (x ∷ xs) all = elim (cases_Bool (key x == k)) [
  | inl gone ↦ rw gone (fewer key k keys xs all.1)
  | inr kept ↦ rw kept ((rw kept at all.0, fewer key k keys xs all.1))
]

none : {X : Type 0} (key : X → ℕ) (xs : List X) → AllByRecursion (λ x. is_among [] (key x) ≡ true) xs → xs ≡ []
none key [] all = refl
none key (x ∷ xs) all = absurd (let e = all.0 in cc)

one_less : (k : ℕ) (keys : List ℕ) (s : Schema) → HasOnly (k ∷ keys) s → HasOnly keys (without_table s k)
one_less k keys s h = record {
  quiet = all_filter (λ t. acts t ≡ false) (λ t. not (t.tree == k)) s.tables h.quiet;
  tables = fewer (λ t. t.tree) k keys s.tables h.tables;
  indexes = fewer (λ i. i.table) k keys s.indexes h.indexes;
  views = h.views;
}

none_left : (s : Schema) → HasOnly [] s → s ≡ no_schema
none_left s h =
    ap (λ ts. let x : Schema = record s { tables = ts } in x) (none (λ t. t.tree) s.tables h.tables)
    ∙ ap (λ is. let x : Schema = record s { tables = []; indexes = is } in x) (none (λ i. i.table) s.indexes h.indexes)
    ∙ ap (λ vs. let x : Schema = record { tables = []; indexes = []; views = vs } in x) h.views

no_reference : (t : Table) (refs : List Reference) → list_any (λ ref. is_some (deed_for Enforced true ref)) refs ≡ false
    → list_any (λ ref. same_name t.name ref.parent && is_some (deed_for Enforced true ref)) refs ≡ false
no_reference t [] h = refl
no_reference t (ref ∷ refs) h = elim (cases_Bool (is_some (deed_for Enforced true ref))) [
  | inl deed ↦ absurd (let e = rw deed at h in cc)
  | inr idle ↦ elim (cases_Bool (same_name t.name ref.parent)) [ inl same ↦ rw (same, idle) (no_reference t refs (rw idle at h)) | inr other ↦ rw other (no_reference t refs (rw idle at h)) ]
]

none_acts : (t : Table) (us : List Table) → AllByRecursion (λ u. acts u ≡ false) us
    → list_any (λ u. list_any (λ ref. same_name t.name ref.parent && is_some (deed_for Enforced true ref)) u.references) us ≡ false
none_acts t [] all = refl
none_acts t (u ∷ us) all = rw (no_reference t u.references all.0) (none_acts t us all.1)

free : (keys : List ℕ) (s : Schema) (t : Table) → HasOnly keys s → is_acted_on s Enforced t ≡ false
free keys s t h = none_acts t s.tables h.quiet

-- Another table is still found.
still_found : (s : Schema) (k : ℕ) (t : Table) → Finds s t → (t.tree == k) ≡ false → Finds (without_table s k) t
still_found s k t f other =
    let stays : not (t.tree == k) ≡ true = ap not other in
    record {
      named = find_filter (λ u. same_name u.name t.name) (λ u. not (u.tree == k)) s.tables t f.named stays;
      numbered = find_filter (λ u. u.tree == t.tree) (λ u. not (u.tree == k)) s.tables t f.numbered stays;
      low = f.low;
      stored = f.stored;
    }

all_still : (s : Schema) (k : ℕ) (ts : List Table) → AllByRecursion (Finds s) ts → AllByRecursion (λ t. (t.tree == k) ≡ false) ts → AllByRecursion (Finds (without_table s k)) ts
all_still s k [] all other = tt
all_still s k (t ∷ ts) all other = (still_found s k t all.0 other.0, all_still s k ts all.1 other.1)

step : (t : Table) (ts : List Table) (s : Schema) → Stand (t ∷ ts) s → Stand ts (without_table s t.tree)
step t ts s h = record {
  found = all_still s t.tree ts h.found.1 h.apart.0;
  apart = h.apart.1;
  only = one_less t.tree (numbers ts) s h.only;
}

-- Each text drops one of these tables, in their order.
abbrev pub AreDrops : List (List ℕ) → List Table → Type 0
AreDrops texts ts = AllZip (λ sql t. IsDrop sql t.name × (t.is_counted ≡ false)) texts ts

pub each_dropped : (texts : List (List ℕ)) (ts : List Table) → AreDrops texts ts → (old new : Database) → Each DropsTable texts old new → Stand ts old.schema → new.schema ≡ no_schema
each_dropped [] [] are old new same h = ap (λ (d : Database). d.schema) same ∙ none_left old.schema h.only
each_dropped [] (t ∷ ts) are old new drops h = absurd are
each_dropped (sql ∷ texts) [] are old new drops h = absurd are
each_dropped (sql ∷ texts) (t ∷ ts) are old new drops h =
    let one = drops.1 t h.found.0 are.0.0 (free _ old.schema t h.only) are.0.1 in
    each_dropped texts ts are.1 drops.0 new drops.2 (subst (Stand ts) (sym one.gone) (step t ts old.schema h))

-- ---- tables with different names have different tree numbers

abbrev pub differ : List Table → Bool
differ [] = true
differ (t ∷ ts) = not (list_any (λ u. bytes_eq t.name u.name) ts) && differ ts

both : (a b : Bool) → (a && b) ≡ true → (a ≡ true) × (b ≡ true)
both true b h = (refl, h)
both false b h = absurd (cc)

neither : (a b : Bool) → not (a || b) ≡ true → (a ≡ false) × (not b ≡ true)
neither true b h = absurd (cc)
neither false b h = (refl, h)

two_apart : (s : Schema) (t u : Table) → Finds s t → Finds s u → bytes_eq t.name u.name ≡ false → (u.tree == t.tree) ≡ false
two_apart s t u f g other = elim (cases_Bool (u.tree == t.tree)) [
  | inl e ↦
      let n : u.tree ≡ t.tree = grind (arith, nat_tests) in
      let same : Some u ≡ Some t = sym g.numbered ∙ ap (λ k. find (λ (v : Table). v.tree == k) s.tables) n ∙ f.numbered in
      let one : u ≡ t = cc in
      absurd (let a = ap (λ (v : Table). bytes_eq t.name v.name) one in let b = (bytes_eq-Decides t.name t.name).1 refl in cc)
  | inr e ↦ e
]

one_apart : (s : Schema) (t : Table) (us : List Table) → Finds s t → AllByRecursion (Finds s) us → not (list_any (λ u. bytes_eq t.name u.name) us) ≡ true → AllByRecursion (λ u. (u.tree == t.tree) ≡ false) us
one_apart s t [] f all h = tt
one_apart s t (u ∷ us) f all h = let two = neither _ _ h in (two_apart s t u f all.0 two.0, one_apart s t us f all.1 two.1)

pub all_apart : (s : Schema) (ts : List Table) → AllByRecursion (Finds s) ts → differ ts ≡ true → IsAscending (λ a b. (b.tree == a.tree) ≡ false) ts
all_apart s [] all h = tt
all_apart s (t ∷ ts) all h = let two = both _ _ h in (one_apart s t ts all.0 all.1 two.0, all_apart s ts all.1 two.1)
