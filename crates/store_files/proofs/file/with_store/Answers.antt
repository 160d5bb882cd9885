use Rattle.std.proofs.Common.{◌≡◌, Bool, Result, Ok, Err, None, IfErr, IsErrAnd, refl, inl, inr}
use Rattle.std.proofs.lemmas.Result.{IfErr-weaker, IfOk-weaker}
use Rattle.sqlite.specs.Recovery.{Image}
use Rattle.sqlite.specs.declared.error.Error.TheVariants.{SqliteFailure}
use Rattle.sqlite.specs.declared.error.ErrorCode.TheVariants.{OutOfMemory}
use Rattle.sqlite_disk.specs.declared.Disk.{Ghosts}
use Rattle.over_tables.specs.declared.fault.FileFault.{FileFault}
use Rattle.over_tables.specs.declared.fault.FileFault.TheVariants.{Memory}
use Rattle.over_tables.specs.declared.opening.Wanted.{Wanted}
use Rattle.store_files.specs.Files.{IsNotTaken}
use Rattle.store_files.specs.declared.place.Place.TheVariants.{Unclear}
use Rattle.store_files.proofs.Opened.{runs_with}
use Rattle.store_files.proofs.file.with_store.Goals as goal

-- If an allocation fails before SQLite is called, no database is opened.
refused :
    {D Done : Type 0} (g : Ghosts D) (image : Image) (IsFresh : Bool → D → Type 0) (wanted : Wanted) (result : Result Done FileFault) → IsErrAnd result (λ fault. fault ≡ Memory) → IfErr result (IsNotTaken g image IsFresh wanted)
refused g image IsFresh wanted (Ok _) is = absurd is
refused g image IsFresh wanted (Err fault) is =
    inr (inl (inl (record {
      error = SqliteFailure OutOfMemory;
      left = None;
      place = Ok Unclear;
      cause = is;
      failed = record { named = refl; none = λ _. refl; some = tt };
    })))

pub returns-in_err-is_missing-clause-not_taken : goal.returns-in_err-is_missing-clause-not_taken
returns-in_err-is_missing-clause-not_taken g c = refused _ _ _ _ c.from_residual.result c.from_residual.ensures.1

pub returns-in_err-place_of-clause-not_taken : goal.returns-in_err-place_of-clause-not_taken
returns-in_err-place_of-clause-not_taken g c = refused _ _ _ _ c.from_residual-in_err-place_of.result c.from_residual-in_err-place_of.ensures.1

pub returns-in_err-create_private-clause-not_taken : goal.returns-in_err-create_private-clause-not_taken
returns-in_err-create_private-clause-not_taken g c = refused _ _ _ _ c.from_residual-in_err-create_private.result c.from_residual-in_err-create_private.ensures.1

pub returns-in-Ok-clause-done : goal.returns-in-Ok-clause-done
returns-in-Ok-clause-done g c =
    IfOk-weaker c.run_over.result _ _ (λ done ran. (c.in-Ok.conn, (λ clean. (c.in-Ok.ensures.opened clean, c.in-Ok.ensures.found clean, c.in-Ok.ensures.sums clean, c.in-Ok.ensures.whole clean)), runs_with c.in-Ok.conn _ _ c.args.wanted _ done c.in-Ok.ensures.log ran))
    c.run_over.ensures.done

pub returns-in-Ok-clause-not_taken : goal.returns-in-Ok-clause-not_taken
returns-in-Ok-clause-not_taken g c =
    IfErr-weaker c.run_over.result _ _
    (λ fault refused. inr (inr (c.in-Ok.conn, (λ clean. (c.in-Ok.ensures.opened clean, c.in-Ok.ensures.found clean, c.in-Ok.ensures.sums clean, c.in-Ok.ensures.whole clean)), refused))) c.run_over.ensures.turned_down

pub returns-in-Ok-clause-memory : goal.returns-in-Ok-clause-memory
returns-in-Ok-clause-memory g c is = absurd (c.in-Ok.ensures.memory is)

pub returns-in-Err-clause-not_taken : goal.returns-in-Err-clause-not_taken
returns-in-Err-clause-not_taken g c = inr (inl c.in-Err.ensures.failed)
