use Rattle.std.proofs.Common.{refl}
use Rattle.list_store.specs.Lists.{contents}
use Rattle.faulty_store.proofs.Undone.{lists_undone}
use Rattle.faulty_store.proofs.store.FaultyStoreJobStore.commit.Goals as goal

pub returns-in_err-commit-clause-undone : goal.returns-in_err-commit-clause-undone
returns-in_err-commit-clause-undone c =
    lists_undone (contents c.args.self.now.lists) (contents c.turn.new.self.lists) (contents c.commit.new.self) c.args.self.now.device c.turn.new.self.device c.in_err-commit.field-0.0 c.from_residual-in_err-commit.result
    c.from_residual-in_err-commit.ensures.1 (λ undone. c.in_err-commit.ensures.undone undone refl) c.turn.ensures.same
