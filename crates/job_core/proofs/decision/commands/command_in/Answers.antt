use Rattle.std.proofs.Common.{arith, ap, length, ◌≡◌}
use Rattle.store_data.specs.Cursor.{PlacedSegment}
use Rattle.store_data.proofs.CursorLemmas.{fits_there}
use Rattle.job_facts.specs.Rows.{placed_of}
use Rattle.job_core.proofs.decision.commands.command_in.Goals as goal
use Rattle.job_core.proofs.decision.commands.command_in.Goals.{then-view-cursor-via-then-view-cursor, then-view-cursor-via-else-view-cursor+then-cursor-gt256}

pub returns-then-view-cursor : goal.returns-then-view-cursor
returns-then-view-cursor c = λ plan k is at there max low.
    let fits = fits_there plan is k c.args.cursor.now at (placed_of c.args.segment.now) there in
    let size : length c.view-view.result.bytes.now ≡ length c.args.segment.now.bytes = ap (λ (v : PlacedSegment). length v.segment.bytes) c.view-view.ensures.shown in
    elim c.then-view-cursor.branch [
      | then-view-cursor-via-then-view-cursor w ↦ absurd (omega (arith, w.if-view-cursor.true, size, fits.offset))
      | then-view-cursor-via-else-view-cursor+then-cursor-gt256 w ↦ absurd (omega (arith, w.if-cursor-gt256.true, fits.ranges.block))
    ]
