-- The keys of rows, the order of rows, and the preconditions of the checks of cards.
use Rattle.std.specs.Prelude.{◌≡◌, ◌≤◌, ◌+◌, ◌^◌, ℕ, Bool, List, All, AllPairs, length, map, bytes_eq}
use Rattle.std.specs.List.{range_with_len}
use Rattle.std.specs.List.Sorted.{IsNonDecreasingBy}
use Rattle.job_facts.specs.declared.facts.Lot.{Lot}
use Rattle.job_facts.specs.Sound.{AreApart, AreProducts}
use Rattle.table_rows.specs.Tables.{StoredBatch, StoredBlank, StoredGrouping, StoredLot, StoredRecord, StoredWord, Tables}
use Rattle.audit_laws.specs.Audited.{AreInOrder}

-- The key of the row is `k`.
abbrev pub has_key : {X : Type 0} → (X → List ℕ) → List ℕ → X → Bool
has_key key k x = bytes_eq (key x) k

-- the lots of rows of `lot`
abbrev pub lots_of : List StoredLot → List Lot
lots_of lots = map (λ (l : StoredLot). l.lot) lots

-- Lots are in the order of their first serials, no lot is empty, and no two lots share a serial.
pub record AreLotsInOrder (lots : List StoredLot) : Type 0 where
  pub rising : IsNonDecreasingBy (λ (l : StoredLot). l.lot.first) lots
  pub some : All (λ (l : StoredLot). 1 ≤ l.lot.count) lots
  pub range : All (λ (l : StoredLot). l.lot.first + l.lot.count ≤ 10 ^ 18) lots
  pub apart : AllPairs (λ (l m : StoredLot). AreApart l.lot m.lot) lots

-- The batches of `t` and their cards can be checked: records, groupings and status words are in
-- order, the products and lots are sound, and the ids of batches are consecutive.
pub record AreReady (t : Tables) : Type 0 where
  pub records : IsNonDecreasingBy (λ (r : StoredRecord). r.batch) t.records
  pub groupings : IsNonDecreasingBy (λ (g : StoredGrouping). g.batch) t.groupings
  pub words : IsNonDecreasingBy (λ (w : StoredWord). w.session) t.words
  pub products : AreProducts t.products
  pub lots : AreLotsInOrder t.lots
  pub batch_ids : map (λ (b : StoredBatch). b.id) t.batches ≡ range_with_len 1 (length t.batches)

-- Lots are in the order of their first serials, blanks in the order of their serials, and all other
-- rows with numeric keys in the order of their keys.
pub record AreSorted (t : Tables) : Type 0 where
  pub in_order : AreInOrder t
  pub lots : IsNonDecreasingBy (λ (l : StoredLot). l.lot.first) t.lots
  pub blanks : IsNonDecreasingBy (λ (b : StoredBlank). b.serial) t.blanks
