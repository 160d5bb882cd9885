use Rattle.store_files.proofs.wal.open_in.Goals as goal

pub returns-in-Ok-open_files-clause-sums : goal.returns-in-Ok-open_files-clause-sums
returns-in-Ok-open_files-clause-sums g c = rw c.set_clock.ensures c.in-Ok-open_files.ensures.plain
