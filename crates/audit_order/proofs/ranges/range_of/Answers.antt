use Rattle.std.proofs.Common.{List, ◌-◌, drop, leb, length, ltb, rules, subst, sym, take}
use Rattle.std.specs.List.Sorted.{IsPartitionedBy}
use Rattle.std.proofs.lemmas.List.{take_rest}
use Rattle.std.proofs.lemmas.List.Sorted.{IsNonDecreasingBy-drop, IsPartitionPoint-from_clause, IsPartitionedBy-leb, IsPartitionedBy-ltb}
use Rattle.audit_order.proofs.RangeLemmas.{range_is}
use Rattle.audit_order.proofs.ranges.range_of.Goals as goal

pub returns : goal.returns
returns g c =
    let n = g.T.Ranged.number in
    let xs = c.args.rows.now in
    let v = c.args.number in
    let first = c.partition_point-first.result in
    let rest = take_rest xs first in
    let there = subst (λ (ys : List g.row.T.Denot). IsPartitionedBy (λ y. leb (n y) v) ys) (sym rest) (IsPartitionedBy-leb n (drop first xs) v (IsNonDecreasingBy-drop n first xs c.requires)) in
    range_is n v xs first c.partition_point-count.result (take (length xs - first) (drop first xs)) rest c.partition_point-first.ensures.bound
    (IsPartitionPoint-from_clause (λ y. ltb (n y) v) xs _ c.partition_point-first.ensures.partitioned (IsPartitionedBy-ltb n xs v c.requires) (λ a r f k. search rules))
    c.partition_point-count.ensures.bound
    (IsPartitionPoint-from_clause (λ y. leb (n y) v) _ _ c.partition_point-count.ensures.partitioned there (λ a r f k. search rules))
