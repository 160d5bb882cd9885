-- Lemmas about the number of blanks in all lots, which fits in 64 bits.
use Rattle.std.proofs.Common.{◌≡◌, ◌≤◌, ◌<◌, ◌+◌, ◌^◌, ℕ, Bool, true, false, cond, List, All, get_or, length, take, sym, ap, arith}
use Rattle.std.specs.Prelude.{sum_by}
use Rattle.std.proofs.lemmas.List.{length-map}
use Rattle.std.proofs.lemmas.List.Sums.{sum_by-le, sum_by_more, sum_by_more_le_part}
use Rattle.job_facts.specs.declared.facts.Lot.{Lot}
use Rattle.table_rows.specs.Keys.{is_lot_for}
use Rattle.table_rows.specs.Tables.{StoredLot, Tables}
use Rattle.audit_laws.specs.Audited.{IsAudited}
use Rattle.audit_order.proofs.SameLists.{All-unmapped}
use Rattle.book_lines.specs.Blanks.{share_for}

abbrev count_of : StoredLot → ℕ
count_of l = l.lot.count

cond_least : (b : Bool) (n : ℕ) → cond b n 0 ≤ n
cond_least true n = omega arith
cond_least false n = omega arith

share_least : (p : List ℕ) (l : StoredLot) → share_for p l ≤ count_of l
share_least p l = cond_least (is_lot_for p l) l.lot.count

module _ (p : List ℕ) (lots : List StoredLot) (i : ℕ) (l : StoredLot) (total more : ℕ) (within : i < length lots) (is : l ≡ get_or lots i l) where
  pub more_fit : sum_by count_of lots < 2 ^ 64 → total ≡ sum_by (share_for p) (take i lots) → more ≡ share_for p l → total + more < 2 ^ 64
  more_fit few so_far next =
      let same : count_of (get_or lots i l) ≡ count_of l = ap count_of (sym is) in
      omega (arith, few, so_far, next, same, share_least p l, sum_by_more_le_part (share_for p) count_of lots i l within (share_least p))

  pub one_more : total ≡ sum_by (share_for p) (take i lots) → more ≡ share_for p l → total + more ≡ sum_by (share_for p) (take (i + 1) lots)
  one_more so_far next =
      let same : share_for p (get_or lots i l) ≡ share_for p l = ap (share_for p) (sym is) in
      omega (arith, so_far, next, same, sum_by_more (share_for p) lots i l within)

-- there are at most 4,096 lots with at most 1,000,000 blanks each
pub few_blanks : (t : Tables) → IsAudited t → sum_by count_of t.lots < 2 ^ 64
few_blanks t audited =
    let most : All (λ (l : StoredLot). l.lot.count ≤ 1000000) t.lots
    = All-unmapped (λ (l : StoredLot). l.lot) (λ (l : Lot). l.count ≤ 1000000) t.lots (λ k d inside. (audited.lots.each k d inside).most) in
    omega (arith, sum_by-le count_of 1000000 t.lots most, length-map t.lots (λ (l : StoredLot). l.lot), audited.lots.few)
