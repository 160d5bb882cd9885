use Rattle.std.proofs.Common.{sym, subst}
use Rattle.store_data.specs.Groups.{Distinct}
use Rattle.store_data.proofs.GroupLemmas.{Distinct-with_key, place_at, with_key_at}
use Rattle.store_data.proofs.keys.Keys.place_of.Goals as goal

pub returns-in-Some-clause-keys : goal.returns-in-Some-clause-keys
returns-in-Some-clause-keys c = sym (with_key_at c.args.self.now c.in-Some.place c.args.key c.in-Some.ensures)

pub returns-in-Some-clause-place : goal.returns-in-Some-clause-place
returns-in-Some-clause-place c = sym (place_at c.args.self.now c.in-Some.place c.args.key (subst Distinct c.self.view_is c.self.invariant) c.in-Some.ensures)

pub invariant_of-self-2 : goal.invariant_of-self-2
invariant_of-self-2 c = subst Distinct (sym c.in_ok-place.ensures.keys) (Distinct-with_key c.args.key c.self.inside.keys.keys c.self.invariant)
