use Rattle.sqlite.specs.Files.{file_state}
use Rattle.book_file.proofs.Fresh.{bytes_too, clean_too, read_too, usable_too}
use Rattle.book_file.proofs.Handing.{found_in}
use Rattle.book_file.proofs.opening.open_guarded.Goals as goal

pub guarded-requires : goal.guarded-requires
guarded-requires g c = c.requires.left

pub open_files-requires-clause-log : goal.open_files-requires-clause-log
open_files-requires-clause-log g c = (usable_too _ _ _ _ c.requires _ c.guarded.ensures).0

pub open_files-requires-clause-db : goal.open_files-requires-clause-db
open_files-requires-clause-db g c = (usable_too _ _ _ _ c.requires _ c.guarded.ensures).1

pub returns-in-Ok-open_files-clause-found : goal.returns-in-Ok-open_files-clause-found
returns-in-Ok-open_files-clause-found g c clean =
    let opened = c.in-Ok-open_files.ensures.opened clean in
    let found = c.in-Ok-open_files.ensures.found clean in
    found_in _ _ (file_state c.in-Ok-open_files.conn) (bytes_too _ _ _ _ c.requires _ c.guarded.ensures) opened.0 opened.1 found.holds found.reads

pub returns-in-Ok-open_files-clause-clean : goal.returns-in-Ok-open_files-clause-clean
returns-in-Ok-open_files-clause-clean g c clean = clean_too _ _ _ _ c.requires _ c.guarded.ensures (c.in-Ok-open_files.ensures.found clean).honest

pub returns-in-Err-clause-failed : goal.returns-in-Err-clause-failed
returns-in-Err-clause-failed g c =
    let failed = c.in-Err.ensures in
    record {
      named = failed.named;
      given = c.guarded.result;
      opened = read_too _ _ _ _ c.requires _ c.guarded.ensures;
      left = c.in-Err.left;
      last_is = c.into_files.ensures;
      failed = λ clean. (failed.cause clean, failed.unharmed clean);
    }
