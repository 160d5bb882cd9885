use Rattle.std.proofs.Common.{◌≡◌, take, ◌++◌}
use Rattle.std.proofs.Math.Logic.{∥∥₁_map}
use Rattle.server_run.proofs.KeptLemmas.{offered-is, offered-now, offered_none, offered_some}
use Rattle.server_run.proofs.kept.KeepingWriterWrite.write.Goals as goal

pub invariant_of-self : goal.invariant_of-self
invariant_of-self g c =
    let self = c.args.self.now in
    let buf = c.args.buf.now in
    let offered : c.add-2.new.self ≡ take 512 (take 512 self.taken ++ buf) =
    offered-is c.new-offered.result c.as_slice.result.now self.taken c.add.new.self buf c.add-2.new.self c.new-offered.ensures c.as_slice.ensures.value c.add.ensures c.add-2.ensures in
    record { kept = ∥∥₁_map self.kept (offered_none _ _ _ self.taken self.offered buf _ c.in_err-count.ensures.bytes offered) }

pub invariant_of-self-2 : goal.invariant_of-self-2
invariant_of-self-2 g c =
    let self = c.args.self.now in
    let buf = c.args.buf.now in
    let offered : c.add-2.new.self ≡ take 512 (take 512 self.taken ++ buf) =
    offered-is c.new-offered.result c.as_slice.result.now self.taken c.add.new.self buf c.add-2.new.self c.new-offered.ensures c.as_slice.ensures.value c.add.ensures c.add-2.ensures in
    record { kept = ∥∥₁_map self.kept (offered_some _ _ _ self.taken self.offered buf _ _ c.in_ok-count.count c.in_ok-count.ensures.bytes offered c.add-3.ensures) }

pub returns-in_err-count-clause-offered : goal.returns-in_err-count-clause-offered
returns-in_err-count-clause-offered g c =
    offered-now c.new-offered.result c.as_slice.result.now c.args.self.now.taken c.add.new.self c.args.buf.now c.add-2.new.self c.new-offered.ensures c.as_slice.ensures.value c.add.ensures c.add-2.ensures

pub returns-clause-offered : goal.returns-clause-offered
returns-clause-offered g c =
    offered-now c.new-offered.result c.as_slice.result.now c.args.self.now.taken c.add.new.self c.args.buf.now c.add-2.new.self c.new-offered.ensures c.as_slice.ensures.value c.add.ensures c.add-2.ensures
