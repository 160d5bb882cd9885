use Rattle.image_laws.proofs.Products.{rows_with_reply}
use Rattle.image_laws.proofs.next_rows.rows_with_reply.Goals as goal

pub returns : goal.returns
returns call c entry = rows_with_reply c entry
