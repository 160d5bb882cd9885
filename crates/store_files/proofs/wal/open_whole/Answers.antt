use Rattle.std.proofs.Common.{◌∙◌, false, ap₂, sym, subst, inl, inr}
use Rattle.sqlite.specs.Files.{IsBlankAs}
use Rattle.sqlite.specs.WalFiles.{image_at}
use Rattle.store_files.proofs.Opened.{fails_in, found_in, image, long_in, same_image, seen, whole_in}
use Rattle.store_files.proofs.wal.open_whole.Goals as goal

pub returns-in-Ok-open_in-clause-found : goal.returns-in-Ok-open_in-clause-found
returns-in-Ok-open_in-clause-found g c clean =
    let (log, db) = c.in-Ok.ensures.fresh in
    let first = ap₂ image (ap₂ (seen g.S.Start.log g.S.Start.db) log.0 log.1) (ap₂ (seen g.S.Start.log g.S.Start.db) db.0 db.1) in
    let same = same_image _ c.in-Ok.files c.examine.new.files c.examine.ensures.log c.examine.ensures.db in
    found_in c.examine.new.files c.in-Ok-open_in.conn (image_at g.S.Start) (same ∙ first) (c.in-Ok-open_in.ensures.found clean)

pub returns-in-Err-examine-clause-failed : goal.returns-in-Err-examine-clause-failed
returns-in-Err-examine-clause-failed g c =
    let (log, db) = c.in-Ok.ensures.fresh in
    let first = ap₂ image (ap₂ (seen g.S.Start.log g.S.Start.db) log.0 log.1) (ap₂ (seen g.S.Start.log g.S.Start.db) db.0 db.1) in
    inr (record { first = c.in-Ok.files; fresh = (log, db); bytes = first; last = c.examine.new.files; refused = c.in-Err-examine.ensures.refused })

pub returns-in-Ok-open_in-clause-sums : goal.returns-in-Ok-open_in-clause-sums
returns-in-Ok-open_in-clause-sums g c clean blank =
    let (log, db) = c.in-Ok.ensures.fresh in
    let first = ap₂ image (ap₂ (seen g.S.Start.log g.S.Start.db) log.0 log.1) (ap₂ (seen g.S.Start.log g.S.Start.db) db.0 db.1) in
    let same = same_image _ c.in-Ok.files c.examine.new.files c.examine.ensures.log c.examine.ensures.db in
    c.in-Ok-open_in.ensures.sums clean (subst (IsBlankAs false) (sym (same ∙ first)) blank)

pub returns-in-Err-open_in-clause-failed : goal.returns-in-Err-open_in-clause-failed
returns-in-Err-open_in-clause-failed g c = inl (record {
  error = c.in-Err-open_in.error;
  left = c.in-Err-open_in.left;
  place = c.place_of-in-Err-open_in.result;
  cause = c.unopened-in-Err-open_in.ensures;
  failed =
      fails_in _ _ c.in-Ok.files c.examine.new.files c.in-Ok.ensures.fresh (c.examine.ensures.log, c.examine.ensures.db) c.in-Err-open_in.error c.in-Err-open_in.left c.in-Err-open_in.ensures.named
      c.in-Err-open_in.ensures.none c.in-Err-open_in.ensures.some;
})

pub returns-in-Ok-open_in-clause-whole : goal.returns-in-Ok-open_in-clause-whole
returns-in-Ok-open_in-clause-whole g c clean =
    let (log, db) = c.in-Ok.ensures.fresh in
    let first = ap₂ image (ap₂ (seen g.S.Start.log g.S.Start.db) log.0 log.1) (ap₂ (seen g.S.Start.log g.S.Start.db) db.0 db.1) in
    whole_in _ (image_at g.S.Start) c.in-Ok.files c.examine.new.files c.examine.ensures.log first (c.in-Ok-examine.ensures.whole (c.in-Ok-open_in.ensures.found clean).honest)

pub returns-in-Ok-open_in-clause-log : goal.returns-in-Ok-open_in-clause-log
returns-in-Ok-open_in-clause-log g c clean =
    let (log, db) = c.in-Ok.ensures.fresh in
    let first = ap₂ image (ap₂ (seen g.S.Start.log g.S.Start.db) log.0 log.1) (ap₂ (seen g.S.Start.log g.S.Start.db) db.0 db.1) in
    long_in _ (image_at g.S.Start) c.in-Ok.files c.examine.new.files c.examine.ensures.log first c.in-Ok-examine.has_log (c.in-Ok-examine.ensures.long (c.in-Ok-open_in.ensures.found clean).honest)
