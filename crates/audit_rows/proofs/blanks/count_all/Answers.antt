use Rattle.std.proofs.Common.{◌≡◌, ◌+◌, ◌≤◌, ◌^◌, ◌∙◌, sym}
use Rattle.std.specs.Prelude.{count_by}
use Rattle.std.proofs.lemmas.Bool.{false≢true}
use Rattle.job_facts.specs.States.{is_in}
use Rattle.table_rows.specs.Tables.{StoredLot}
use Rattle.audit_order.proofs.SameLists.{All-done, All-here, All-next}
use Rattle.audit_order.proofs.Tested.{granted, refused}
use Rattle.audit_rows.proofs.blanks.count_all.Goals as goal

pub counts-requires-clause-range : goal.counts-requires-clause-range
counts-requires-clause-range c =
    All-here (λ (l : StoredLot). l.lot.first + l.lot.count ≤ 10 ^ 18) c.args.lots.now c.loop-lot.lot-index c.lot-item.result c.loop-lot-test.true c.lot-item.is c.requires.ranges

pub returns-then-not-counts : goal.returns-then-not-counts
returns-then-not-counts c = refused (λ all. false≢true (sym c.if-not-counts.true ∙ c.counts.ensures.1
    (All-here (λ (x : StoredLot). x.discarded ≡ count_by (λ serial. is_in serial x.lot) c.args.serials.now) c.args.lots.now c.loop-lot.lot-index c.lot-item.result c.loop-lot-test.true c.lot-item.is all)))

pub loop-lot-preserved : goal.loop-lot-preserved
loop-lot-preserved c =
    All-next (λ (x : StoredLot). x.discarded ≡ count_by (λ serial. is_in serial x.lot) c.args.serials.now) c.args.lots.now c.loop-lot.lot-index c.lot-item.result c.loop-lot-test.true c.lot-item.is c.loop-lot.invariant
    (c.counts.ensures.0 c.if-not-counts.false)

pub returns : goal.returns
returns c = granted (All-done (λ (x : StoredLot). x.discarded ≡ count_by (λ serial. is_in serial x.lot) c.args.serials.now) c.args.lots.now c.loop-lot.lot-index c.loop-lot-test.false c.loop-lot.invariant)
