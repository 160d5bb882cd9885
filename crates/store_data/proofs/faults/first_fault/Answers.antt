use Rattle.std.proofs.Common.{length, ap, sym, ◌∙◌, arith, nat_lt, map-id}
use Rattle.std.proofs.lemmas.Iterator.Adapters.{YieldsList-from_vec}
use Rattle.std.proofs.lemmas.Iterator.Consumers.{YieldsList-turn, YieldsList-end}
use Rattle.store_data.specs.Faults.{identifier_twice}
use Rattle.store_data.proofs.FaultLemmas.{ranks_few, ranks_short, marks_are, blocks_are, any_push, fault_found}
use Rattle.store_data.proofs.faults.first_fault.Goals as goal

pub has_too_many_blocks-requires-clause-few : goal.has_too_many_blocks-requires-clause-few
has_too_many_blocks-requires-clause-few c =
    ranks_few (λ v. v.items) c.deref-in-loop-rows-2.result.now c.in_ok-ranks.ranks.items c.in-Some.rows.items c.deref-in-loop-rows-2.ensures.value c.in_ok-ranks.ensures

pub has_too_many_blocks-requires-clause-each : goal.has_too_many_blocks-requires-clause-each
has_too_many_blocks-requires-clause-each c =
    let gives = c.into_iter-rows-iterator.ensures.into_iter_gives in
    let list = YieldsList-from_vec c.args.applications.items gives.0 (omega (arith, gives.1, c.args.applications.ok.0)) in
    let turn = YieldsList-turn list c.loop-rows.yielded c.loop-rows.rows-iterator c.loop-rows.yielded_by _ c.next.new.self c.in-Some.rows c.in-Some.is c.next.ensures.steps in
    ranks_short (λ v. v.items) c.deref-in-loop-rows-2.result.now c.in_ok-ranks.ranks.items c.in-Some.rows.items c.deref-in-loop-rows-2.ensures.value c.in_ok-ranks.ensures 4096
    (omega (arith, c.requires.few (length c.loop-rows.yielded) c.in-Some.rows turn.0, ap (λ v. length v.items) turn.1))

pub loop-rows-preserved : goal.loop-rows-preserved
loop-rows-preserved c =
    let ranks = c.in_ok-ranks.ranks.items in
    let rows = c.in-Some.rows.items in
    record {
      differ = any_push _ c.loop-rows.yielded c.in-Some.rows c.loop-rows.found.marks_differ c.marks_differ.result c.loop-rows.invariant.differ
          (c.marks_differ.ensures ∙ marks_are (λ v. v.items) c.deref-in-loop-rows.result.now ranks rows c.deref-in-loop-rows.ensures.value c.in_ok-ranks.ensures);
      twice = any_push _ c.loop-rows.yielded c.in-Some.rows c.loop-rows.found.identifier_twice c.in_ok-found.field-0 c.loop-rows.invariant.twice
          (c.in_ok-found.ensures ∙ ap identifier_twice c.deref.ensures.value);
      many = any_push _ c.loop-rows.yielded c.in-Some.rows c.loop-rows.found.too_many_blocks c.has_too_many_blocks.result c.loop-rows.invariant.many
          (c.has_too_many_blocks.ensures
          ∙ ap (nat_lt 256) (blocks_are (λ v. v.items) c.deref-in-loop-rows-2.result.now ranks rows c.deref-in-loop-rows-2.ensures.value c.in_ok-ranks.ensures c.args.max));
    }

pub returns : goal.returns
returns c =
    let gives = c.into_iter-rows-iterator.ensures.into_iter_gives in
    let list = YieldsList-from_vec c.args.applications.items gives.0 (omega (arith, gives.1, c.args.applications.ok.0)) in
    let all = YieldsList-end list c.loop-rows.yielded c.loop-rows.rows-iterator c.loop-rows.yielded_by _ c.next.new.self c.in-None.is c.next.ensures.steps in
    let found = c.loop-rows.found in
    c.first.ensures
    ∙ sym (fault_found (λ v. v.items) c.args.max c.loop-rows.yielded c.args.applications.items found.marks_differ found.identifier_twice found.too_many_blocks
    (sym (map-id c.loop-rows.yielded) ∙ all.0) c.loop-rows.invariant.differ c.loop-rows.invariant.twice c.loop-rows.invariant.many)
