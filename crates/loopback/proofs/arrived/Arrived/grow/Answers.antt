use Rattle.std.proofs.Common.{rules, arith, ◌∙◌, ◌++◌, sym, subst}
use Rattle.http_messages.specs.Progresses.{IsProgress}
use Rattle.std.proofs.lemmas.Grind.{common_steps}
use Rattle.loopback.proofs.arrived.Arrived.grow.Goals as goal

pub invariant_of-self : goal.invariant_of-self
invariant_of-self c = record {
  few = c.args.self.now.few;
  first = λ less. c.reserve_exact.ensures.items ∙ c.args.self.now.first less;
  kept = first_of (search rules, grind (arith, common_steps));
  room = first_of (search rules, grind (arith, common_steps));
  told = subst (λ l. ∥ IsProgress (c.args.self.now.front.bytes.items ++ l) c.args.self.now.progress ∥₁) (sym c.reserve_exact.ensures.items) c.args.self.now.told;
}

pub invariant_of-self-2 : goal.invariant_of-self-2
invariant_of-self-2 c = record {
  few = c.args.self.now.few;
  first = λ less. c.reserve_exact.ensures.items ∙ c.args.self.now.first less;
  kept = first_of (search rules, grind (arith, common_steps));
  room = first_of (search rules, grind (arith, common_steps));
  told = subst (λ l. ∥ IsProgress (c.args.self.now.front.bytes.items ++ l) c.args.self.now.progress ∥₁) (sym c.reserve_exact.ensures.items) c.args.self.now.told;
}
