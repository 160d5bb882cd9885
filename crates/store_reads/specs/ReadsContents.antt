-- The meaning of reads for the contents.
use Rattle.std.specs.Prelude.{IfOk, IsTrue, Result}
use Rattle.sqlite.specs.State.{HasCleanDisk, State}
use Rattle.sqlite.specs.declared.error.Error.{Error}
use Rattle.job_facts.specs.Contents.{AreSound, Contents}
use Rattle.image_laws.specs.Image.{image}
use Rattle.sql_rows.specs.Image.{IsImage}
use Rattle.row_reads.specs.Reads.{Looks}

-- On a correct device, if the call succeeds, the connection was open, and `P` is true for the
-- result and any sound contents that the database represents.
abbrev pub ReadsContents : {T : Type 0} → State → State → Result T Error → (Contents → T → Type 0) → Type 0
ReadsContents old new result P = HasCleanDisk new → IfOk result (λ answer. IsTrue old.is_open × ((c : Contents) → AreSound c → IsImage (image c) old.now → P c answer))

-- `P` is true for the result and any sound contents that the database represents. Nothing is
-- changed, and a crash leaves what it could leave before.
pub record FindsContents {T : Type 0} (old new : State) (result : Result T Error) (P : Contents → T → Type 0) : Type 0 where
  pub value : ReadsContents old new result P
  pub looks : Looks old new

-- On a correct device, if the call succeeds and the connection is still open, `P` is true for the
-- result and any sound contents that the database represents. The call may have read nothing, so
-- success doesn't show that the connection is open.
abbrev pub GivesContents : {T : Type 0} → State → State → Result T Error → (Contents → T → Type 0) → Type 0
GivesContents old new result P = HasCleanDisk new → IfOk result (λ answer. IsTrue new.is_open → (c : Contents) → AreSound c → IsImage (image c) old.now → P c answer)
