use Rattle.std.proofs.Common.{◌≡◌, ◌⊎◌, length, subst, sym, arith}
use Rattle.std.proofs.lemmas.Bool.{lt-ltb, ltb-true}
use Rattle.sqlite_disk.specs.Disk.{MoreFaults}
use Rattle.over_tables.specs.declared.fault.FileFault.{FileFault}
use Rattle.over_tables.specs.declared.fault.FileFault.TheVariants.{Memory, Storage}
use Rattle.store_files.proofs.Opened.{storage_or_memory}
use Rattle.store_files.proofs.wal.is_long.Goals as goal

pub returns-in-Ok-clause-long : goal.returns-in-Ok-clause-long
returns-in-Ok-clause-long g c clean =
    let is : c.in-Ok.len ≡ length (g.D.Disk.seen c.args.log.now) = c.in-Ok.ensures.len clean in
    ((λ more. omega (arith, is, ltb-true 41 c.in-Ok.len more)), (λ more. lt-ltb 41 c.in-Ok.len (omega (arith, is, more))))

pub returns-in-Err-clause-failed : goal.returns-in-Err-clause-failed
returns-in-Err-clause-failed g c =
    let counted = MoreFaults (g.D.Disk.faults c.args.log.now) (g.D.Disk.faults c.len.new.self) in
    subst (λ (f : FileFault). ((f ≡ Storage) × counted) ⊎ (f ≡ Memory)) (sym c.fault_of.ensures) (storage_or_memory c.from.result counted (λ _. c.in-Err.ensures.faults.0))
