use Rattle.std.proofs.Common.{◌≡◌, ◌+◌, ◌≤◌, ℕ, List, length, sym, ap, ap₂, subst, ◌∙◌, arith, rules, add-one}
use Rattle.std.proofs.lemmas.Result.{err_from_is_err_and}
use Rattle.sqlite_disk.specs.Disk.{CountsFaultIf, MoreFaults}
use Rattle.sqlite_wal.specs.Reads.{IsClean}
use Rattle.sqlite_wal.specs.Recovery.{frame, frame_at}
use Rattle.sqlite_wal.proofs.PartLemmas.{frames_len-le}
use Rattle.wal_damage.specs.Damage.{look_to}
use Rattle.wal_damage.specs.Walks.{advanced, shown, walk_to}
use Rattle.wal_damage.specs.declared.walk.Walk.{Walk}
use Rattle.wal_damage.proofs.WalkLemmas.{walk_more, lost_more}
use Rattle.wal_damage.proofs.look.look_in.Goals as goal

pub read_frame-requires-clause-within : goal.read_frame-requires-clause-within
read_frame-requires-clause-within g c = omega (arith, frames_len-le c.args.page_size (c.loop-i.i + 1) c.args.frames (omega arith))

pub loop-i-preserved : goal.loop-i-preserved
loop-i-preserved g c = (
  search rules,
  omega (arith, ap (λ (w : Walk). w.lost) c.advance-walk.ensures, lost_more c.loop-i.walk c.read_frame.new.buf, c.loop-i.invariant.1),
  λ clean.
      let log = g.D.Disk.seen c.args.log.now in
      let size = c.args.page_size in
      let read : c.read_frame.new.buf ≡ frame size log c.loop-i.i = rw (← c.loop-i.invariant.0.seen) (c.in_ok-read_frame.ensures.read clean) in
      c.advance-walk.ensures
      ∙ ap₂ advanced (c.loop-i.invariant.2 (c.read_frame.ensures.same.clean clean)) read
      ∙ walk_more size log c.loop-i.i
      ∙ ap (walk_to size log) (sym (add-one c.loop-i.i)),
  c.in_ok-read_frame.ensures.faults ∙ c.loop-i.invariant.3,
)

pub returns-in_err-read_frame-clause-faults : goal.returns-in_err-read_frame-clause-faults
returns-in_err-read_frame-clause-faults g c =
    let size = c.args.page_size in
    let (reads, lost, walk, faults) = c.loop-i.invariant in
    let counted = c.in_err-read_frame.ensures.faults in
    let before = frames_len-le size (c.loop-i.i + 1) c.args.frames (omega arith) in
    let now = g.D.Disk.faults c.read_frame.new.log in
    let Fits = IsClean g.D.Disk c.args.log.now → frame_at size c.args.frames ≤ length (g.D.Disk.seen c.args.log.now) in
    let more = λ (fits : Fits).
    counted.0 (λ clean. subst (λ (bytes : List ℕ). frame_at size (c.loop-i.i + 1) ≤ length bytes) (sym reads.seen) (omega (arith, before, fits (reads.clean clean)))) in
    let p = err_from_is_err_and c.from_residual.result c.from_residual.ensures.1 in
    subst (λ r. CountsFaultIf Fits r (g.D.Disk.faults c.args.log.now) now) (sym p.1)
    ((λ fits. subst (λ (n : ℕ). MoreFaults n now) faults (more fits)), subst (λ (n : ℕ). n ≤ now) faults counted.1)

pub returns-clause-value : goal.returns-clause-value
returns-clause-value g c clean =
    let done : c.loop-i.i ≡ c.args.frames = omega arith in
    c.shown.ensures ∙ ap shown (c.loop-i.invariant.2 clean) ∙ ap (look_to c.args.page_size (g.D.Disk.seen c.args.log.now)) done

pub returns-clause-faults : goal.returns-clause-faults
returns-clause-faults g c = c.loop-i.invariant.3
