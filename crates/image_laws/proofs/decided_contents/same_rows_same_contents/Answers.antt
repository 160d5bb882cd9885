use Rattle.image_laws.proofs.Contents.{same_rows_same_contents}
use Rattle.image_laws.proofs.decided_contents.same_rows_same_contents.Goals as goal

pub returns : goal.returns
returns call c d sound also same = same_rows_same_contents c d sound also same
