use Rattle.std.proofs.Common.{arith}
use Rattle.book_lines.proofs.LotLemmas.{more_fit, one_more}
use Rattle.book_lines.proofs.blanks.blanks_for.Goals as goal

pub overflow_add-total : goal.overflow_add-total
overflow_add-total c =
    omega (
      arith,
      more_fit c.args.product.now c.args.lots.now c.loop-lot.lot-index c.lot-item.result c.loop-lot.total c.share_for-more.result c.loop-lot-test.true c.lot-item.is c.requires
          c.loop-lot.invariant c.share_for-more.ensures,
    )

pub loop-lot-preserved : goal.loop-lot-preserved
loop-lot-preserved c =
    one_more c.args.product.now c.args.lots.now c.loop-lot.lot-index c.lot-item.result c.loop-lot.total c.share_for-more.result c.loop-lot-test.true c.lot-item.is
    c.loop-lot.invariant c.share_for-more.ensures
