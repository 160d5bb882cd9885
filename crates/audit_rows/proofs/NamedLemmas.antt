-- Rows that are apart have different names, and lots share no serial.
use Rattle.std.proofs.Common.{◌≡◌, ℕ, ◌+◌, ◌≤◌, Bool, true, false, not, ◌&&◌, ◌||◌, leb, List, length, get_or, map, All, inl, inr, refl, sym, ap, ◌∙◌, arith}
use Rattle.std.specs.Prelude.{AllPairs, bytes_eq}
use Rattle.std.proofs.lemmas.Bool.{and_parts, cases_Bool}
use Rattle.std.proofs.lemmas.Bool.Decides.{nat_tests}
use Rattle.std.proofs.lemmas.List.{length-map}
use Rattle.std.proofs.lemmas.List.Elements.{All-map}
use Rattle.store_data.specs.declared.row.Product.{Product}
use Rattle.store_data.specs.Sequence.{IsProduct}
use Rattle.job_facts.specs.declared.facts.Lot.{Lot}
use Rattle.job_facts.specs.Sound.{AreApart, AreLots, AreNamedOnce, AreProducts, IsLot, IsName}
use Rattle.table_rows.specs.Tables.{StoredLot}
use Rattle.row_laws.proofs.Finding.{AllPairs-from_map, AllPairs-map}
use Rattle.audit_order.specs.Order.{lots_of}
use Rattle.audit_order.proofs.SameLists.{All-unmapped}

module _ {X : Type 0} (R S : X → X → Type 0) (gives : (x y : X) → R x y → S x y) where
  pub pairs_weaker : (xs : List X) → AllPairs R xs → AllPairs S xs
  pairs_weaker xs pairs = λ i j d before within. gives _ _ (pairs i j d before within)

not-true : (b : Bool) → not b ≡ true → b ≡ false
not-true true e = sym e
not-true false e = refl

module _ {X : Type 0} (name : X → List ℕ) (xs : List X) where
  pub named_once : AllPairs (λ x y. not (bytes_eq (name x) (name y)) ≡ true) xs → AreNamedOnce (map name xs)
  named_once pairs =
      AllPairs-map (λ m n. bytes_eq m n ≡ false) name xs
      (pairs_weaker (λ x y. not (bytes_eq (name x) (name y)) ≡ true) (λ x y. bytes_eq (name x) (name y) ≡ false) (λ x y. not-true (bytes_eq (name x) (name y))) xs pairs)

  pub once_named : AreNamedOnce (map name xs) → AllPairs (λ x y. not (bytes_eq (name x) (name y)) ≡ true) xs
  once_named once =
      pairs_weaker (λ x y. bytes_eq (name x) (name y) ≡ false) (λ x y. not (bytes_eq (name x) (name y)) ≡ true) (λ x y. ap not) xs
      (AllPairs-from_map (λ m n. bytes_eq m n ≡ false) name xs once)

-- ---- products

abbrev code : Product → List ℕ
code p = p.code

pub are_products : (products : List Product) → length products ≤ 256 → AllPairs (λ (p q : Product). not (bytes_eq p.code q.code) ≡ true) products
    → All (λ (p : Product). IsName p.code × IsProduct p) products → AreProducts products
are_products products few apart each = record {
  few = few;
  once = named_once (λ (p : Product). p.code) products apart;
  named = λ k d within. (each k d within).0;
  ranged = λ k d within. (each k d within).1;
}

pub products_apart : (products : List Product) → AreProducts products → AllPairs (λ (p q : Product). not (bytes_eq p.code q.code) ≡ true) products
products_apart products are = once_named (λ (p : Product). p.code) products are.once

pub products_in_range : (products : List Product) → AreProducts products → All (λ (p : Product). IsName p.code × IsProduct p) products
products_in_range products are = λ k d within. (are.named k d within, are.ranged k d within)

-- ---- lots

abbrev pub lot_apart : StoredLot → StoredLot → Bool
lot_apart l m = not (bytes_eq l.lot.name m.lot.name) && (leb (l.lot.first + l.lot.count) m.lot.first || leb (m.lot.first + m.lot.count) l.lot.first)

ranges_apart : (l m : Lot) → (leb (l.first + l.count) m.first || leb (m.first + m.count) l.first) ≡ true → AreApart l m
ranges_apart l m e = elim (cases_Bool (leb (l.first + l.count) m.first)) [
  | inl before ↦ inl (grind (arith, nat_tests))
  | inr other ↦ inr (let behind : leb (m.first + m.count) l.first ≡ true = sym (ap (λ b. b || leb (m.first + m.count) l.first) other) ∙ e in grind (arith, nat_tests))
]

apart_ranges : (l m : Lot) → AreApart l m → (leb (l.first + l.count) m.first || leb (m.first + m.count) l.first) ≡ true
apart_ranges l m (inl before) = grind (arith, nat_tests)
apart_ranges l m (inr behind) = grind (arith, nat_tests)

pub are_lots : (products : List Product) (lots : List StoredLot) → length lots ≤ 4096 → AllPairs (λ l m. lot_apart l m ≡ true) lots → All (λ (l : StoredLot). IsLot products l.lot) lots → AreLots products (lots_of lots)
are_lots products lots few apart each = record {
  few = omega (arith, length-map lots (λ (l : StoredLot). l.lot));
  once = names lots apart;
  each = All-map (IsLot products) (λ (l : StoredLot). l.lot) lots each;
  apart = AllPairs-map AreApart (λ (l : StoredLot). l.lot) lots
      (pairs_weaker (λ l m. lot_apart l m ≡ true) (λ (l m : StoredLot). AreApart l.lot m.lot) (λ l m e. ranges_apart l.lot m.lot (and_parts (not (bytes_eq l.lot.name m.lot.name)) _ e).1) lots apart);
}
  where
    names : (lots : List StoredLot) → AllPairs (λ l m. lot_apart l m ≡ true) lots → AreNamedOnce (map (λ (l : Lot). l.name) (lots_of lots))
    names lots apart =
        AllPairs-map (λ m n. bytes_eq m n ≡ false) (λ (l : Lot). l.name) (lots_of lots)
        (AllPairs-map (λ (l m : Lot). bytes_eq l.name m.name ≡ false) (λ (l : StoredLot). l.lot) lots
        (pairs_weaker (λ l m. lot_apart l m ≡ true) (λ (l m : StoredLot). bytes_eq l.lot.name m.lot.name ≡ false)
        (λ l m e. not-true (bytes_eq l.lot.name m.lot.name) (and_parts (not (bytes_eq l.lot.name m.lot.name)) _ e).0) lots apart))

pub lots_apart : (products : List Product) (lots : List StoredLot) → AreLots products (lots_of lots) → AllPairs (λ l m. lot_apart l m ≡ true) lots
lots_apart products lots are = λ i j d before within.
    let names = AllPairs-from_map (λ (l m : Lot). bytes_eq l.name m.name ≡ false) (λ (l : StoredLot). l.lot) lots
    (AllPairs-from_map (λ m n. bytes_eq m n ≡ false) (λ (l : Lot). l.name) (lots_of lots) are.once) i j d before within in
    let ranges = AllPairs-from_map AreApart (λ (l : StoredLot). l.lot) lots are.apart i j d before within in
    rw (ap not names) (apart_ranges (get_or lots i d).lot (get_or lots j d).lot ranges)

pub lots_in_range : (products : List Product) (lots : List StoredLot) → AreLots products (lots_of lots) → All (λ (l : StoredLot). IsLot products l.lot) lots
lots_in_range products lots are = All-unmapped (λ (l : StoredLot). l.lot) (IsLot products) lots are.each
