use Rattle.std.proofs.Common.{ltb, rules, sym}
use Rattle.std.proofs.lemmas.List.Sorted.{IsPartitionPoint-from_clause, IsPartitionedBy-ltb}
use Rattle.audit_rows.proofs.SortedLemmas.{count_inside}
use Rattle.audit_rows.proofs.blanks.count_between.Goals as goal

pub overflow_sub-result : goal.overflow_sub-result
overflow_sub-result c =
    (count_inside c.args.serials.now c.args.low c.args.end c.partition_point-first.result c.partition_point-last.result c.requires.order c.partition_point-first.ensures.bound
    (IsPartitionPoint-from_clause (λ x. ltb x c.args.low) c.args.serials.now _ c.partition_point-first.ensures.partitioned (IsPartitionedBy-ltb (λ x. x) c.args.serials.now c.args.low c.requires.rising) (λ a r f k. search rules))
    c.partition_point-last.ensures.bound
    (IsPartitionPoint-from_clause (λ x. ltb x c.args.end) c.args.serials.now _ c.partition_point-last.ensures.partitioned (IsPartitionedBy-ltb (λ x. x) c.args.serials.now c.args.end c.requires.rising) (λ a r f k. search rules))).0

pub returns : goal.returns
returns c =
    sym (count_inside c.args.serials.now c.args.low c.args.end c.partition_point-first.result c.partition_point-last.result c.requires.order c.partition_point-first.ensures.bound
    (IsPartitionPoint-from_clause (λ x. ltb x c.args.low) c.args.serials.now _ c.partition_point-first.ensures.partitioned (IsPartitionedBy-ltb (λ x. x) c.args.serials.now c.args.low c.requires.rising) (λ a r f k. search rules))
    c.partition_point-last.ensures.bound
    (IsPartitionPoint-from_clause (λ x. ltb x c.args.end) c.args.serials.now _ c.partition_point-last.ensures.partitioned (IsPartitionedBy-ltb (λ x. x) c.args.serials.now c.args.end c.requires.rising) (λ a r f k. search rules))).1
