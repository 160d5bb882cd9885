use Rattle.std.proofs.Common.{rules, ◌∙◌, ap, length, subst, arith}
use Rattle.http_messages.specs.Progresses.{IsProgress}
use Rattle.loopback.proofs.ArrivedLemmas.{front_told, told_all}
use Rattle.std.proofs.lemmas.Grind.{common_steps}
use Rattle.loopback.proofs.arrived.Arrived.read_front.Goals as goal

pub progress_on-self-requires-clause-told : goal.progress_on-self-requires-clause-told
progress_on-self-requires-clause-told g c =
    let old = c.args.self.now in
    front_told old.front.bytes.items old.rest.items c.read_into-read.ensures.bytes.0 c.deref.result.now (length c.as_slice-first.result.now) old.progress (old.first c.requires)
    (c.deref.ensures.value ∙ c.read_into-read.ensures.bytes.1) (ap length c.as_slice-first.ensures.value) old.told

pub invariant_of-self-3 : goal.invariant_of-self-3
invariant_of-self-3 g c =
    let old = c.args.self.now in
    record {
      few = first_of (search rules, grind (arith, common_steps));
      first = λ _. old.first c.requires;
      kept = old.kept;
      room = old.room;
      told = told_all c.read_into-read.new.into.items old.rest.items c.progress_on-self.result (old.first c.requires) (subst (λ l. ∥ IsProgress l c.progress_on-self.result ∥₁) c.deref.ensures.value c.progress_on-self.ensures);
    }
