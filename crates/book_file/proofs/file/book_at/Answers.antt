use Rattle.std.proofs.Common.{ap₂, inl, inr}
use Rattle.std.proofs.lemmas.Bool.{false≢true}
use Rattle.sqlite.specs.WalFiles.{image_at}
use Rattle.sqlite_std_file.specs.File.{IsFresh}
use Rattle.store_files.proofs.Opened.{image, seen, whole_in}
use Rattle.book_file.proofs.Fresh.{fresh_holds, holds_still, only_read}
use Rattle.book_file.proofs.Handing.{without_files}
use Rattle.book_file.proofs.file.book_at.Goals as goal

pub read_files-requires-clause-read : goal.read_files-requires-clause-read
read_files-requires-clause-read g c =
    let (log, db) = c.in-Ok.ensures.fresh in
    let first = ap₂ image (ap₂ (seen g.S.Start.log g.S.Start.db) log.0 log.1) (ap₂ (seen g.S.Start.log g.S.Start.db) db.0 db.1) in
    let holds = fresh_holds g.S.Start.is_mixing c.in-Ok.files.db.is_log g.S.Start.log g.S.Start.db c.in-Ok.files.db.calls.log.events c.in-Ok.files.db.key db.0 db.1 in
    only_read _ (image_at g.S.Start) c.in-Ok.files c.refuse_damaged.new.files _ (log, db) (c.refuse_damaged.ensures.log, c.refuse_damaged.ensures.db) first holds

pub read_files-requires-clause-whole : goal.read_files-requires-clause-whole
read_files-requires-clause-whole g c clean =
    let (log, db) = c.in-Ok.ensures.fresh in
    let first = ap₂ image (ap₂ (seen g.S.Start.log g.S.Start.db) log.0 log.1) (ap₂ (seen g.S.Start.log g.S.Start.db) db.0 db.1) in
    whole_in _ (image_at g.S.Start) c.in-Ok.files c.refuse_damaged.new.files c.refuse_damaged.ensures.log first (c.in-Ok-refuse_damaged.ensures.whole clean)

pub returns-in-Err-refuse_damaged : goal.returns-in-Err-refuse_damaged
returns-in-Err-refuse_damaged g c =
    let (log, db) = c.in-Ok.ensures.fresh in
    let first = ap₂ image (ap₂ (seen g.S.Start.log g.S.Start.db) log.0 log.1) (ap₂ (seen g.S.Start.log g.S.Start.db) db.0 db.1) in
    let holds = fresh_holds g.S.Start.is_mixing c.in-Ok.files.db.is_log g.S.Start.log g.S.Start.db c.in-Ok.files.db.calls.log.events c.in-Ok.files.db.key db.0 db.1 in
    record {
      verdict = tt;
      given = λ ok. absurd (false≢true ok);
      left = holds_still _ IsFresh _ _ (only_read _ (image_at g.S.Start) c.in-Ok.files c.refuse_damaged.new.files IsFresh (log, db) (c.refuse_damaged.ensures.log, c.refuse_damaged.ensures.db) first holds);
      found = tt;
      refused = inr (inl (record { first = c.in-Ok.files; fresh = (log, db); bytes = first; refused = c.in-Err-refuse_damaged.ensures.refused }));
    }

pub returns-in-Err : goal.returns-in-Err
returns-in-Err g c = without_files _ _ _ (inr (inr (inr (c.in-Err.error, _, c.in-Err.ensures.none, c.unopened.ensures))))
