use Rattle.std.proofs.Common.{◌≡◌, ◌∙◌, sym, true}
use Rattle.std.proofs.lemmas.Bool.{false≢true}
use Rattle.audit_order.proofs.SameLists.{pairs_done, pairs_more, pairs_to}
use Rattle.audit_order.proofs.Tested.{granted, refused}
use Rattle.audit_rows.proofs.once.are_apart.Goals as goal

pub returns-then-not-are_apart_from : goal.returns-then-not-are_apart_from
returns-then-not-are_apart_from g c = refused (λ pairs. false≢true (sym c.if-not-are_apart_from.true ∙ c.are_apart_from.ensures.1
    (pairs_to (λ x y. g.T.Apart.apart x y ≡ true) c.args.rows.now c.loop-place.place c.index-rows-place.result c.loop-place-test.true c.index-rows-place.is pairs)))

pub loop-place-preserved : goal.loop-place-preserved
loop-place-preserved g c =
    pairs_more (λ x y. g.T.Apart.apart x y ≡ true) c.args.rows.now c.loop-place.place c.index-rows-place.result c.loop-place-test.true c.index-rows-place.is c.loop-place.invariant
    (c.are_apart_from.ensures.0 c.if-not-are_apart_from.false)

pub returns : goal.returns
returns g c = granted (pairs_done (λ x y. g.T.Apart.apart x y ≡ true) c.args.rows.now c.loop-place.place c.loop-place-test.false c.loop-place.invariant)
