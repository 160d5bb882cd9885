use Rattle.std.proofs.Math.Logic.{∥∥₁_map}
use Rattle.server_run.proofs.KeptLemmas.{flushed}
use Rattle.server_run.proofs.kept.KeepingWriterWrite.flush.Goals as goal

pub invariant_of-self : goal.invariant_of-self
invariant_of-self g c = record { kept = ∥∥₁_map c.args.self.now.kept (flushed _ _ _ _ _ c.flush.ensures.bytes) }
