use Rattle.std.proofs.Common.{◌∙◌, sym}
use Rattle.std.proofs.lemmas.Bool.{true≢false}
use Rattle.loopback.specs.Arriving.{is_settled}
use Rattle.loopback.proofs.PlaceLemmas.{none_found}
use Rattle.loopback.proofs.listening.Loopback.next_settled.Goals as goal

pub returns-in-None-clause-prompt : goal.returns-in-None-clause-prompt
returns-in-None-clause-prompt g c = λ some. absurd (true≢false (sym some ∙ none_found (λ p. is_settled p.arrived) c.args.self.now.slots.pending.items (sym c.find_settled.ensures.first ∙ c.in-None.is)))
