use Rattle.std.proofs.Common.{◌≡◌, take}
use Rattle.std.specs.Prelude.{sum_by}
use Rattle.job_facts.specs.declared.facts.Lot.{Lot}
use Rattle.list_store.specs.Sessions.{lots_for}
use Rattle.list_store.proofs.accounts.sum_lots.Given as goal

abbrev pub invariant-loop-lot : goal.invariant-loop-lot
invariant-loop-lot l = l.total ≡ sum_by (λ (l : Lot). l.count) (lots_for (take l.lot-index l.lots) l.product)
