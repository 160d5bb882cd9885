-- Lemmas: the book and the files of a database that was read.
use Rattle.std.proofs.Common.{◌≡◌, ℕ, List, Option, Some, None, Result, Ok, IsOk, IsSome, IfOk, refl, subst, sym}
use Rattle.std.proofs.lemmas.Bool.{false≢true}
use Rattle.std.specs.Prelude.{IfSome}
use Rattle.sqlite.specs.Recovery.{Image}
use Rattle.sqlite_disk.specs.declared.Disk.{Ghosts}
use Rattle.sqlite_disk.specs.declared.Files.{Files}
use Rattle.over_tables.specs.declared.fault.FileFault.{FileFault}
use Rattle.book_file.specs.Files.{InFiles}
use Rattle.book_file.specs.Found.{HasVerdict, IsFound}
use Rattle.book_file.specs.declared.book.Book.{Book}
use Rattle.book_arguments.specs.declared.words.BookWords.{BookWords}
use Rattle.book_answers.specs.Answers.{Prints, PrintsFile}
use Rattle.book_answers.specs.declared.from_file.Printed.{Printed}

-- a property of a successful result is true for its value
at_ok : {A E : Type 0} (P : A → Type 0) (read : Result A E) (x : A) → read ≡ Ok x → IfOk read P → P x
at_ok P read x is holds = subst (λ o. IfOk o P) is holds

module _ {D : Type 0} (g : Ghosts D) (image : Image) where
  -- A book comes with the files from which it was read.
  files_of : (read : Result Book FileFault) (files : Option (Files D)) (book : Book) → read ≡ Ok book → (IsOk read → IsSome files) → IfOk read (λ b. IfSome files (InFiles g image (λ db. IsFound db b)))
      → (held : Files D) × InFiles g image (λ db. IsFound db book) held
  files_of read (Some held) book is given found = (held, at_ok (λ b. InFiles g image (λ db. IsFound db b) held) read book is found)
  files_of read None book is given found = absurd (false≢true (given (subst (λ (r : Result Book FileFault). IsOk r) (sym is) refl)))

  -- The size of the file isn't a part of the rows.
  sized : (book : Book) (size : Option ℕ) (held : Files D) → InFiles g image (λ db. IsFound db book) held → InFiles g image (λ db. IsFound db (record book { size = size })) held
  sized book size held found clean =
      let in_files = found clean in
      let is = in_files.4 in
      (in_files.0, in_files.1, in_files.2, in_files.3, record { rows = is.rows; held = is.held; sorted = is.sorted; verdict = is.verdict; tables = is.tables })

  -- The printed book has the rows that were read, and the size that was asked for afterwards.
  pub printed_book : (w : BookWords) (before after : Option (List ℕ)) (printed : Printed) (read : Result Book FileFault) (files : Option (Files D)) (first : Book) (size : Option ℕ) → read ≡ Ok first
      → (IsOk read → IsSome files) → IfOk read (λ b. IfSome files (InFiles g image (λ db. IsFound db b))) → IfOk read (λ b. HasVerdict b.tables b.failing) → printed.failing ≡ first.failing
      → Prints w (record first { size = size }) before after printed.end → PrintsFile g image w before after printed
  printed_book w before after printed read files first size is given found verdict failing prints =
      let held = files_of read files first is given found in
      record {
        book = record first { size = size };
        files = held.0;
        found = sized first size held.0 held.1;
        verdict = at_ok (λ (b : Book). HasVerdict b.tables b.failing) read first is verdict;
        failing = failing;
        prints = prints;
      }
