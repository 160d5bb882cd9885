use Rattle.std.proofs.Common.{rules, ◌∙◌}
use Rattle.sqlite.specs.Held.{state}
use Rattle.store_reads.proofs.KnownRows.{batches_once}
use Rattle.store_reads.proofs.SegmentRows.{no_product, product_read}
use Rattle.store_reads.proofs.ReadContents.{rows_as, rows_then}
use Rattle.store_reads.proofs.segments.product_in.Goals as goal

pub returns-in_default-clause-value : goal.returns-in_default-clause-value
returns-in_default-clause-value g c =
    let b = c.args.batch.now in
    rows_as (state g.S.Store c.args.conn.now) (state g.S.Store c.batch_by_name.new.conn) _ _ (rw c.in_default.is at c.in_ok-stored.ensures.finds.found)
    (λ t is apart. no_product t.products t.batches b (is (batches_once t apart b)))

pub returns-clause-value : goal.returns-clause-value
returns-clause-value g c =
    let b = c.args.batch.now in
    rows_then (state g.S.Store c.args.conn.now) (state g.S.Store c.batch_by_name.new.conn) (state g.S.Store c.product.new.conn) _ _ _
    c.batch_by_name.ensures.finds.looks c.product.ensures.finds.looks (rw c.in-Some.is at c.in_ok-stored.ensures.finds.found) c.in_ok-found.ensures.finds.found
    (λ t one two apart. search rules ∙ product_read t.products t.batches b c.in-Some.stored (one (batches_once t apart b)) c.in_ok-found.found (two apart.products))
