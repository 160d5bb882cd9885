use Rattle.book_file.proofs.Handing.{clean_first, clean_last, holds_now}
use Rattle.book_file.proofs.file.read_and_leave.Goals as goal

pub returns-clause-read : goal.returns-clause-read
returns-clause-read g c clean =
    let stays = g.met.D.Disk.seen_may_stay in
    let last = c.read_book-read.new.conn in
    let survives = c.read_book-read.ensures.looks.survives in
    let late = clean_last stays c.args.conn last survives c.leave-files.result c.leave-files.ensures clean in
    record {
      was_clean = clean_first stays c.args.conn last survives c.leave-files.result c.leave-files.ensures clean;
      found = c.read_book-read.ensures.value late;
      why = c.read_book-read.ensures.why late;
      kept = holds_now stays c.args.conn last survives c.leave-files.result c.leave-files.ensures clean;
    }

pub returns-clause-closed : goal.returns-clause-closed
returns-clause-closed g c = (c.read_book-read.new.conn, c.leave-files.ensures)
