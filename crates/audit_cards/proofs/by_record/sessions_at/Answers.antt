use Rattle.std.proofs.Common.{List, ◌-◌, drop, leb, length, ltb, rules, subst, sym, take}
use Rattle.std.specs.List.Sorted.{IsPartitionedBy}
use Rattle.std.proofs.lemmas.List.{take_rest}
use Rattle.std.proofs.lemmas.List.Sorted.{IsNonDecreasingBy-drop, IsPartitionPoint-from_clause, IsPartitionedBy-leb, IsPartitionedBy-ltb}
use Rattle.table_rows.specs.Tables.{StoredSession}
use Rattle.audit_order.proofs.RangeLemmas.{range_is}
use Rattle.audit_cards.proofs.by_record.sessions_at.Goals as goal

pub returns : goal.returns
returns c =
    let xs = c.args.sessions.now in
    let v = c.args.place in
    let first = c.partition_point-first.result in
    let rest = take_rest xs first in
    let there = subst (λ (ys : List StoredSession). IsPartitionedBy (λ y. leb y.place v) ys) (sym rest) (IsPartitionedBy-leb (λ (s : StoredSession). s.place) (drop first xs) v (IsNonDecreasingBy-drop (λ (s : StoredSession). s.place) first xs c.requires)) in
    range_is (λ (s : StoredSession). s.place) v xs first c.partition_point-count.result (take (length xs - first) (drop first xs)) rest c.partition_point-first.ensures.bound
    (IsPartitionPoint-from_clause (λ (y : StoredSession). ltb y.place v) xs _ c.partition_point-first.ensures.partitioned (IsPartitionedBy-ltb (λ (s : StoredSession). s.place) xs v c.requires) (λ a r f k. search rules))
    c.partition_point-count.ensures.bound
    (IsPartitionPoint-from_clause (λ (y : StoredSession). leb y.place v) _ _ c.partition_point-count.ensures.partitioned there (λ a r f k. search rules))
