use Rattle.std.proofs.Common.{◌≡◌, map, take}
use Rattle.store_reads.specs.Segments.{heads_in}
use Rattle.store_reads.proofs.plans.heads_of.Given as goal

abbrev pub invariant-loop-own : goal.invariant-loop-own
invariant-loop-own l = map (λ own. own.items) l.heads.items ≡ map heads_in (map (λ own. own.items) (take l.own-index l.own-items))
