use Rattle.std.proofs.Common.{◌≡◌, take}
use Rattle.std.specs.Prelude.{sum_by}
use Rattle.book_lines.specs.Blanks.{share_for}
use Rattle.book_lines.proofs.blanks.blanks_for.Given as goal

abbrev pub invariant-loop-lot : goal.invariant-loop-lot
invariant-loop-lot l = l.total ≡ sum_by (share_for l.product) (take l.lot-index l.lots)
