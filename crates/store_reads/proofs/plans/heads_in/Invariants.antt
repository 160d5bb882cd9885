use Rattle.std.proofs.Common.{◌≡◌, ◌<◌, ◌-◌, ℕ, None, get_or, length, take}
use Rattle.std.specs.List.{filter_map, range_with_len}
use Rattle.store_reads.specs.Segments.{head_of_rank}
use Rattle.store_reads.proofs.plans.heads_in.Given as goal

abbrev pub invariant-loop-g : goal.invariant-loop-g
invariant-loop-g l = record {
  length : length l.firsts ≡ 1000;
  firsts : (k : ℕ) → k < 1000 → get_or l.firsts k None ≡ head_of_rank (take l.g-index l.own) k;
}

abbrev pub invariant-loop-rank : goal.invariant-loop-rank
invariant-loop-rank l = l.heads.items ≡ filter_map (head_of_rank l.own) (range_with_len 1 (l.rank - 1))
