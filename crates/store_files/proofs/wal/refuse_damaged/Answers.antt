use Rattle.std.proofs.Common.{inr, subst, sym}
use Rattle.store_files.specs.Wal.{RefusesWal}
use Rattle.store_files.proofs.Opened.{storage_or_memory}
use Rattle.store_files.proofs.wal.refuse_damaged.Goals as goal

pub returns-in-Err-clause-refused : goal.returns-in-Err-clause-refused
returns-in-Err-clause-refused g c =
    subst (RefusesWal g.D.Disk c.args.files.now c.look_at.new.files) (sym c.fault_of.ensures) (inr (storage_or_memory c.in-Err.fault _ c.in-Err.ensures.cause))
