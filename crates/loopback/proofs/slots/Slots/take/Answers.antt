use Rattle.std.proofs.Common.{◌∙◌, ap}
use Rattle.loopback.specs.Arriving.{is_settled}
use Rattle.loopback.proofs.PlaceLemmas.{found_passes}
use Rattle.loopback.proofs.slots.Slots.take.Goals as goal

pub returns : goal.returns
returns g c = ap (λ p. is_settled p.arrived) c.remove.ensures.value ∙ found_passes (λ p. is_settled p.arrived) c.args.self.now.pending.items c.args.at c.remove.result c.requires
