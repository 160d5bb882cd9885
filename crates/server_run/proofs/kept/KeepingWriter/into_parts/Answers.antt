use Rattle.std.proofs.Math.Logic.{∥∥₁_map}
use Rattle.server_run.proofs.KeptLemmas.{reply_offered, reply_taken}
use Rattle.server_run.proofs.kept.KeepingWriter.into_parts.Goals as goal

pub returns-in-Answered-clause-kept : goal.returns-in-Answered-clause-kept
returns-in-Answered-clause-kept g c = ∥∥₁_map c.args.self.kept (reply_taken _ _ c.args.self.taken c.args.self.offered c.args.end c.in-Answered.is)

pub returns-in-WriteFailed-clause-kept : goal.returns-in-WriteFailed-clause-kept
returns-in-WriteFailed-clause-kept g c = ∥∥₁_map c.args.self.kept (reply_offered _ _ c.args.self.taken c.args.self.offered c.args.end c.in-WriteFailed.is)
