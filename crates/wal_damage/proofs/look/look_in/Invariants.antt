use Rattle.std.proofs.Common.{◌≡◌, ◌≤◌}
use Rattle.sqlite_wal.specs.Reads.{IsClean, OnlyReads}
use Rattle.wal_damage.specs.Walks.{walk_to}
use Rattle.wal_damage.proofs.look.look_in.Given as goal

abbrev pub invariant-loop-i : goal.invariant-loop-i
invariant-loop-i g l =
    OnlyReads g.D.Disk l.fn.log l.log × (l.walk.lost ≤ l.i)
    × (IsClean g.D.Disk l.log → l.walk ≡ walk_to l.page_size (g.D.Disk.seen l.fn.log) l.i)
    × (g.D.Disk.faults l.log ≡ g.D.Disk.faults l.fn.log)
