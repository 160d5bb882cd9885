use Rattle.std.proofs.Math.Logic.{∥∥₁_map}
use Rattle.server_run.proofs.KeptLemmas.{read_more}
use Rattle.server_run.proofs.kept.KeepingReaderByteSource.bring.Goals as goal

pub invariant_of-self : goal.invariant_of-self
invariant_of-self g c =
    record { kept = ∥∥₁_map c.args.self.now.kept (read_more _ _ _ c.args.self.now.first _ _ c.bring-count.ensures.bytes c.add.ensures) }
