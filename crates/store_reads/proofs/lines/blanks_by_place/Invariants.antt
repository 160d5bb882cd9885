use Rattle.std.proofs.Common.{◌≡◌, ◌≤◌, ℕ, nat_eq, count_by, take}
use Rattle.std.specs.HashMap.{get}
use Rattle.store_reads.specs.Lines.{blank_of, is_card_at}
use Rattle.store_reads.proofs.lines.blanks_by_place.Given as goal

abbrev pub invariant-loop-card : goal.invariant-loop-card
invariant-loop-card l = record {
  value : (k : ℕ) → get nat_eq l.blanks k ≡ blank_of (take l.card-index l.good) k;
  once : (k : ℕ) → count_by (is_card_at k) (take l.card-index l.good) ≤ 1;
}
