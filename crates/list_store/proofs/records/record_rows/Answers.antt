use Rattle.list_store.proofs.RecordLemmas.{HavePlan-of_record}
use Rattle.list_store.proofs.records.record_rows.Goals as goal

pub invariant_of-result : goal.invariant_of-result
invariant_of-result c =
    HavePlan-of_record c.in-Some-product_named.product c.in_ok-all.all.items c.in_ok-rows.rows.items c.args.rec.now c.in_ok-rows.ensures
    c.in-Some-product_named.ensures.ranged c.in_ok-all.ensures.few c.in_ok-all.ensures.each c.in_ok-all.ensures.sound
