use Rattle.image_laws.proofs.Contents.{rows_decide_contents}
use Rattle.image_laws.proofs.decided_contents.rows_decide_contents.Goals as goal

pub returns : goal.returns
returns call c t sound same = rows_decide_contents c t sound same
