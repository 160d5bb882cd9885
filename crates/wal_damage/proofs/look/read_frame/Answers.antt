use Rattle.std.proofs.Common.{◌≡◌, ◌+◌, ◌≤◌, length, subst, sym, arith, rules}
use Rattle.std.proofs.lemmas.Result.{err_from_is_err_and}
use Rattle.sqlite_disk.specs.Disk.{CountsFaultIf}
use Rattle.sqlite_wal.specs.Reads.{IsClean}
use Rattle.sqlite_wal.specs.Recovery.{frame_at, frames_len}
use Rattle.sqlite_wal.proofs.PartLemmas.{held_is_part}
use Rattle.wal_damage.proofs.look.read_frame.Goals as goal

pub overflow_mul-i : goal.overflow_mul-i
unfolding frames_len
overflow_mul-i g c = omega (arith, c.requires.within)

pub overflow_add-i : goal.overflow_add-i
unfolding frames_len
overflow_add-i g c = omega (arith, c.requires.within)

pub returns-clause-read : goal.returns-clause-read
unfolding frames_len
returns-clause-read g c clean =
    let len : length c.read_at.new.buf ≡ 24 + c.args.page_size = search rules in
    sym (held_is_part (g.D.Disk.seen c.args.log.now) _ _ (24 + c.args.page_size) (c.in_ok-read_at.ensures.read clean (omega arith)) len)

pub returns-in_err-read_at-clause-faults : goal.returns-in_err-read_at-clause-faults
unfolding frames_len
returns-in_err-read_at-clause-faults g c =
    let counted = c.in_err-read_at.ensures.faults in
    let Fits = IsClean g.D.Disk c.args.log.now → frame_at c.args.page_size (c.args.i + 1) ≤ length (g.D.Disk.seen c.args.log.now) in
    let p = err_from_is_err_and c.from_residual.result c.from_residual.ensures.1 in
    subst (λ r. CountsFaultIf Fits r (g.D.Disk.faults c.args.log.now) (g.D.Disk.faults c.read_at.new.self)) (sym p.1)
    ((λ fits. counted.0 (λ clean. omega (arith, fits clean, c.requires.buf))), counted.1)
