-- The rows of sound contents determine these contents, so contents with the same rows are the same.
use Rattle.job_facts.specs.Contents.{AreSame, AreSound, Contents}
use Rattle.job_facts.proofs.NextContents.{between}
use Rattle.table_rows.specs.Tables.{HaveSameRows, Tables}
use Rattle.table_rows.proofs.Same.{itself}
use Rattle.image_laws.specs.Image.{image}
use Rattle.image_laws.specs.Decided.{contents_of}
use Rattle.image_laws.proofs.Back.{batches_are, sessions_are}
use Rattle.image_laws.proofs.Sets.{closed_are, discarded_are, lots_are, remakes_are, withdrawn_are}

pub rows_decide_contents : (c : Contents) (t : Tables) → AreSound c → HaveSameRows t (image c) → AreSame (contents_of t) c
rows_decide_contents c t sound same = record {
  facts = record {
    products = same.products;
    lots = lots_are c t sound same;
    batches = batches_are c t sound same;
    sessions = sessions_are c t sound same;
    discarded = discarded_are c t sound same;
    remakes = remakes_are c t sound same;
    withdrawn = withdrawn_are c t sound same;
    closed = closed_are c t sound same;
  };
  kept = same.replies;
  marks = same.marks;
}

-- ---- two contents

pub same_rows_same_contents : (c d : Contents) → AreSound c → AreSound d → HaveSameRows (image c) (image d) → AreSame c d
same_rows_same_contents c d sound also same =
    between (contents_of (image c)) c d (rows_decide_contents c (image c) sound (itself (image c))) (rows_decide_contents d (image c) also same)
