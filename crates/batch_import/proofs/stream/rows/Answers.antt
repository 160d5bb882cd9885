use Rattle.std.proofs.Common.{refl}
use Rattle.batch_import.proofs.FirstFault.{coming_of-file_rows}
use Rattle.batch_import.proofs.stream.rows.Goals as goal

pub returns : goal.returns
returns c = rw (c.new.ensures.left) (rw (coming_of-file_rows c.args.product.now.check c.args.raw.now) refl)
