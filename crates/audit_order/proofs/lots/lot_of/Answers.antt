use Rattle.std.proofs.Common.{◌∙◌, ap, leb, rules, sym}
use Rattle.std.specs.Prelude.{option_copied, option_map}
use Rattle.std.proofs.lemmas.Bool.{cond-false, cond-true}
use Rattle.std.proofs.lemmas.List.Sorted.{IsPartitionPoint-from_clause, IsPartitionedBy-leb}
use Rattle.table_rows.specs.Tables.{StoredLot}
use Rattle.audit_order.proofs.LotLemmas.{begun, last_lot, no_last}
use Rattle.audit_order.proofs.lots.lot_of.Goals as goal

pub returns-in_err-lot : goal.returns-in_err-lot
returns-in_err-lot c =
    let lots = c.args.lots.now in
    let point = IsPartitionPoint-from_clause (λ (l : StoredLot). leb l.lot.first c.args.serial) lots _ c.partition_point-count.ensures.partitioned
    (IsPartitionedBy-leb (λ (l : StoredLot). l.lot.first) lots c.args.serial c.requires.rising) (λ a r f k. search rules) in
    ap (option_map (λ lot. lot.now.lot)) c.from_residual.ensures
    ∙ no_last lots c.requires c.args.serial c.partition_point-count.result c.partition_point-count.ensures.bound point (sym c.last.ensures.value ∙ ap option_copied c.in_err-lot.was)

pub is_around-requires : goal.is_around-requires
is_around-requires c =
    let lots = c.args.lots.now in
    let point = IsPartitionPoint-from_clause (λ (l : StoredLot). leb l.lot.first c.args.serial) lots _ c.partition_point-count.ensures.partitioned
    (IsPartitionedBy-leb (λ (l : StoredLot). l.lot.first) lots c.args.serial c.requires.rising) (λ a r f k. search rules) in
    begun lots c.requires c.args.serial c.partition_point-count.result c.partition_point-count.ensures.bound point c.in_ok-lot.lot.now c.in_ok-lot.ensures.item.0 c.in_ok-lot.ensures.item.1

pub returns-then-is_around : goal.returns-then-is_around
returns-then-is_around c =
    let lots = c.args.lots.now in
    let point = IsPartitionPoint-from_clause (λ (l : StoredLot). leb l.lot.first c.args.serial) lots _ c.partition_point-count.ensures.partitioned
    (IsPartitionedBy-leb (λ (l : StoredLot). l.lot.first) lots c.args.serial c.requires.rising) (λ a r f k. search rules) in
    sym (last_lot lots c.requires c.args.serial c.partition_point-count.result c.partition_point-count.ensures.bound point c.in_ok-lot.lot.now c.in_ok-lot.ensures.item.0 c.in_ok-lot.ensures.item.1
    ∙ cond-true _ _ _ (sym c.is_around.ensures ∙ c.if-is_around.true))

pub returns-else-is_around : goal.returns-else-is_around
returns-else-is_around c =
    let lots = c.args.lots.now in
    let point = IsPartitionPoint-from_clause (λ (l : StoredLot). leb l.lot.first c.args.serial) lots _ c.partition_point-count.ensures.partitioned
    (IsPartitionedBy-leb (λ (l : StoredLot). l.lot.first) lots c.args.serial c.requires.rising) (λ a r f k. search rules) in
    sym (last_lot lots c.requires c.args.serial c.partition_point-count.result c.partition_point-count.ensures.bound point c.in_ok-lot.lot.now c.in_ok-lot.ensures.item.0 c.in_ok-lot.ensures.item.1
    ∙ cond-false _ _ _ (sym c.is_around.ensures ∙ c.if-is_around.false))
