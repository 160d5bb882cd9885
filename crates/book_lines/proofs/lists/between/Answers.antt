use Rattle.std.proofs.Common.{List, ◌-◌, drop, length, ltb, rules, subst, sym, take}
use Rattle.std.specs.List.Sorted.{IsPartitionedBy}
use Rattle.std.proofs.lemmas.List.{take_rest}
use Rattle.std.proofs.lemmas.List.Sorted.{IsNonDecreasingBy-drop, IsPartitionPoint-from_clause, IsPartitionedBy-ltb}
use Rattle.table_rows.specs.Tables.{StoredBlank}
use Rattle.book_lines.proofs.BetweenLemmas.{between_is}
use Rattle.book_lines.proofs.lists.between.Goals as goal

pub returns : goal.returns
returns c =
    let n = λ (b : StoredBlank). b.serial in
    let xs = c.args.blanks.now in
    let low = c.args.low in
    let end = c.args.end in
    let first = c.partition_point-first.result in
    let rest = take_rest xs first in
    let there = subst (λ (ys : List StoredBlank). IsPartitionedBy (λ (y : StoredBlank). ltb y.serial end) ys) (sym rest) (IsPartitionedBy-ltb n (drop first xs) end (IsNonDecreasingBy-drop n first xs c.requires)) in
    between_is n low end xs first c.partition_point-count.result (take (length xs - first) (drop first xs)) rest c.partition_point-first.ensures.bound
    (IsPartitionPoint-from_clause (λ (y : StoredBlank). ltb y.serial low) xs _ c.partition_point-first.ensures.partitioned (IsPartitionedBy-ltb n xs low c.requires) (λ a r f k. search rules))
    c.partition_point-count.ensures.bound
    (IsPartitionPoint-from_clause (λ (y : StoredBlank). ltb y.serial end) _ _ c.partition_point-count.ensures.partitioned there (λ a r f k. search rules))
