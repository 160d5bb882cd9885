use Rattle.std.proofs.Common.{refl}
use Rattle.sqlite.specs.WalFiles.{image_at}
use Rattle.book_answers.proofs.FileLemmas.{printed_book}
use Rattle.book_answers.proofs.from_file.print_from_file.Goals as goal

pub returns-clause-printed : goal.returns-clause-printed
returns-clause-printed g c =
    printed_book _ (image_at g.S.Start) _ _ _ _ c.book_in-read.result.0 c.book_in-read.result.1 c.in_ok-book.book c.size_in-size.result c.in_ok-book.was c.book_in-read.ensures.given c.book_in-read.ensures.found
    c.book_in-read.ensures.verdict refl c.print_answer-end.ensures
