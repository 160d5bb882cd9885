use Rattle.std.proofs.Common.{refl}
use Rattle.list_store.specs.Lists.{contents}
use Rattle.faulty_store.proofs.Undone.{lists_undone}
use Rattle.faulty_store.proofs.store.FaultyStoreJobStore.release.Goals as goal

pub returns-in_err-release-clause-undone : goal.returns-in_err-release-clause-undone
returns-in_err-release-clause-undone c =
    lists_undone (contents c.args.self.now.lists) (contents c.turn.new.self.lists) (contents c.release.new.self) c.args.self.now.device c.turn.new.self.device c.in_err-release.field-0.0 c.from_residual-in_err-release.result
    c.from_residual-in_err-release.ensures.1 (λ undone. c.in_err-release.ensures.undone undone refl) c.turn.ensures.same
