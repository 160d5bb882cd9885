use Rattle.std.proofs.Common.{refl, inl, inr, sym, ◌∙◌}
use Rattle.std.proofs.lemmas.Bool.{false≢true}
use Rattle.sqlite.specs.WalFiles.{image_at}
use Rattle.over_tables.specs.declared.fault.FileFault.TheVariants.{Storage}
use Rattle.book_file.specs.Left.{IsLog, unguarded}
use Rattle.book_file.proofs.Handing.{book_in_files, fault_in_files, found_with, unopened_in_files, unread_in_files}
use Rattle.book_file.proofs.file.read_files.Goals as goal

pub returns-in-Ok : goal.returns-in-Ok
returns-in-Ok g c =
    let read = c.read_and_leave-read.result.0 in
    let files = c.read_and_leave-read.result.1 in
    let done = c.with_files.ensures in
    record {
      verdict = done.verdict;
      given = done.given;
      left = done.left;
      found =
          found_with c.with_files.result read (unguarded files) Storage (IsLog files.db) done.same _
          (book_in_files (image_at g.S.Start) c.in-Ok.conn c.in-Ok.ensures.opened c.in-Ok.ensures.found (λ clean. c.requires.whole (c.in-Ok.ensures.clean clean)) files read c.read_and_leave-read.ensures.read);
      refused =
          unread_in_files _ _ c.open_guarded.result c.open_guarded.ensures.failed c.with_files.result read files done.same c.read_and_leave-read.ensures.closed
          (fault_in_files (image_at g.S.Start) c.in-Ok.conn c.in-Ok.ensures.opened c.in-Ok.ensures.found (λ clean. c.requires.whole (c.in-Ok.ensures.clean clean)) files read c.read_and_leave-read.ensures.read);
    }

pub returns-in-Err-default-Some : goal.returns-in-Err-default-Some
returns-in-Err-default-Some g c =
    let arm = c.in-Err-default-Some in
    let done = c.with_files-in-Err-default-Some.ensures in
    record {
      verdict = done.verdict;
      given = done.given;
      left = done.left;
      found = found_with c.with_files-in-Err-default-Some.result _ _ Storage (IsLog arm.files.db) done.same _ tt;
      refused =
          unopened_in_files _ _ c.open_guarded.result c.open_guarded.ensures.failed c.with_files-in-Err-default-Some.result _ arm.files done.same
          arm.field-0-0 arm.field-0-1 arm.is arm.field-0-1-is c.empty.result refl (inr (c.was_to_be_written.ensures.0 c.if-was_to_be_written.true, c.empty.ensures));
    }

pub returns-in-Err-default-Some-2 : goal.returns-in-Err-default-Some-2
returns-in-Err-default-Some-2 g c =
    let arm = c.in-Err-default-Some in
    let done = c.with_files-in-Err-default-Some-2.ensures in
    record {
      verdict = done.verdict;
      given = done.given;
      left = done.left;
      found = found_with c.with_files-in-Err-default-Some-2.result _ _ Storage (IsLog arm.files.db) done.same _ tt;
      refused =
          unopened_in_files _ _ c.open_guarded.result c.open_guarded.ensures.failed c.with_files-in-Err-default-Some-2.result _ arm.files done.same
          arm.field-0-0 arm.field-0-1 arm.is arm.field-0-1-is c.unopened.result refl
          (inl ((λ was. false≢true (sym c.if-was_to_be_written.false ∙ c.was_to_be_written.ensures.1 was)), (c.place_of.result, c.unopened.ensures)));
    }
