use Rattle.std.proofs.Common.{length, ap, sym, ◌∙◌, subst, arith}
use Rattle.std.specs.Prelude.{All}
use Rattle.std.proofs.lemmas.Iterator.Adapters.{YieldsList-from_vec}
use Rattle.std.proofs.lemmas.Iterator.Consumers.{YieldsList-turn}
use Rattle.store_data.specs.declared.row.Row.{Row}
use Rattle.store_data.specs.Groups.{grouped}
use Rattle.store_data.specs.Ranks.{IsRank}
use Rattle.store_data.proofs.FaultLemmas.{groups_all}
use Rattle.store_data.proofs.record_plan.applications.Goals as goal

pub make_application-requires : goal.make_application-requires
make_application-requires c =
    let gives = c.into_iter-group-iterator.ensures.into_iter_gives in
    let groups = c.in_ok-groups.groups in
    let list = YieldsList-from_vec groups.items gives.0 (omega (arith, gives.1, groups.ok.0)) in
    let turn = YieldsList-turn list c.loop-group.yielded c.loop-group.group-iterator c.loop-group.yielded_by _ c.next.new.self c.in-Some.group c.in-Some.is c.next.ensures.steps in
    let each = groups_all (λ (row : Row). row.aid) (λ v. v.items) groups.items c.args.rows.now
    (c.in_ok-groups.ensures ∙ ap (grouped (λ (row : Row). row.aid)) c.in_ok-application_rows.ensures) (λ row. IsRank row.rank) c.requires in
    subst (λ v. All (λ (row : Row). IsRank row.rank) v.items) (sym turn.1) (each (length c.loop-group.yielded) c.in-Some.group turn.0)
