use Rattle.std.proofs.Common.{refl, inl, inr}
use Rattle.sqlite.specs.declared.error.Error.TheVariants.{SqliteFailure}
use Rattle.sqlite.specs.declared.error.ErrorCode.TheVariants.{CannotOpen}
use Rattle.book_file.proofs.Handing.{without_files}
use Rattle.book_file.proofs.file.book_in.Goals as goal

pub returns-in-Err : goal.returns-in-Err
returns-in-Err g c = without_files _ _ _ c.in-Err.ensures

pub returns-in-Ok-NoFile : goal.returns-in-Ok-NoFile
returns-in-Ok-NoFile g c = without_files _ _ _ (inl refl)

pub returns-in_default : goal.returns-in_default
returns-in_default g c = without_files _ _ _ (inr (inr (inr (SqliteFailure CannotOpen, _, refl, c.unopened.ensures))))
