use Rattle.std.proofs.Common.{◌≡◌, ◌∷◌, [], List, append-nil, length, refl, ap, subst, ◌∙◌, MatchOption, arith, rules, append_assoc}
use Rattle.std.specs.List.{AllZip}
use Rattle.std.specs.Vec.Iter.{into_iter_items}
use Rattle.table_reads.proofs.OneByOne.{zip_pushed}
use Rattle.table_reads.proofs.conversion.all_in.Goals as goal

pub loop-row-init : goal.loop-row-init
loop-row-init g c = record {
  rest = search rules;
  left = omega (arith, c.into_iter-row-iterator.ensures.into_iter_gives.1, ap length c.into_iter-row-iterator.ensures.into_iter_gives.0, c.args.rows.ok.0);
  value = search rules;
}

pub loop-row-preserved : goal.loop-row-preserved
loop-row-preserved g c =
    let t = g.C.Conversion in
    let steps = c.in-Some.ensures.steps in
    record {
      rest = append_assoc c.loop-row.yielded (c.in-Some.row ∷ []) _ ∙ rw (← steps.0) c.loop-row.invariant.rest;
      left = omega (arith, steps.1, ap length steps.0, c.loop-row.invariant.left);
      value = zip_pushed t.gives c.loop-row.yielded c.loop-row.all.items _ c.in-Some.row c.in-Some-2.x c.loop-row.invariant.value
          (subst (λ o. MatchOption o (t.is_row c.in-Some.row → ⊥) (t.gives c.in-Some.row)) c.in-Some-2.is c.in_ok-x.ensures) c.in_ok-push.ensures.items;
    }

empty : {X : Type 0} (xs : List X) → length xs ≡ 0 → xs ≡ []
empty [] none = refl
empty (x ∷ xs) none = absurd (omega arith)

pub returns : goal.returns
returns g c =
    let none : into_iter_items c.loop-row.row-iterator ≡ [] = empty _ (omega (arith, c.in-None.ensures.steps.0, c.loop-row.invariant.left)) in
    let all : c.loop-row.yielded ≡ c.args.rows.items = cc (none, append-nil c.loop-row.yielded, c.loop-row.invariant.rest, c.into_iter-row-iterator.ensures.into_iter_gives.0) in
    subst (λ rows. AllZip g.C.Conversion.gives rows c.loop-row.all.items) all c.loop-row.invariant.value
