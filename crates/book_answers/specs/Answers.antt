-- The subcommands of `shopbook`: their output, and the outcomes of their runs.
use Rattle.std.specs.Prelude.{◌≡◌, ◌⊎◌, ℕ, Bool, true, false, List, [], Option, Some, None, Result, Ok, Err}
use Rattle.sqlite.specs.Recovery.{Image}
use Rattle.sqlite_disk.specs.declared.Disk.{Ghosts}
use Rattle.sqlite_disk.specs.declared.Files.{Files}
use Rattle.text_io.specs.Written.{Writes}
use Rattle.text_io.specs.declared.writing.WriteFailed.{WriteFailed}
use Rattle.job_facts.specs.declared.refusal.Refusal.{Refusal}
use Rattle.job_facts.specs.declared.refusal.Refusal.TheVariants.{BatchUnknown, ProductUnknown}
use Rattle.audit_rows.specs.declared.rule.Rule.{Rule}
use Rattle.table_reads.specs.Holding.{number_of}
use Rattle.subcommands.specs.declared.end.End.{End}
use Rattle.subcommands.specs.declared.end.End.TheVariants.{Damaged, Done, Memory, NotReported, WriteFailed as Unwritten}
use Rattle.book_lines.specs.declared.form.Form.{Form}
use Rattle.book_lines.specs.declared.form.Form.TheVariants.{Columns, Json}
use Rattle.book_lines.specs.Blanks.{blanks_of}
use Rattle.book_lines.specs.Cards.{cards_of}
use Rattle.book_lines.specs.Counts.{check_text}
use Rattle.book_lines.specs.Lists.{list_text}
use Rattle.book_lines.specs.Machines.{machines_text}
use Rattle.book_sheet.specs.Sheet.{sheet_of}
use Rattle.book_arguments.specs.declared.words.Ask.{Ask}
use Rattle.book_arguments.specs.declared.words.Ask.TheVariants.{Check, Lists, Cards, Blanks, Machines, Sheet}
use Rattle.book_arguments.specs.declared.words.BookWords.{BookWords}
use Rattle.book_file.specs.Files.{InFiles}
use Rattle.book_file.specs.Found.{HasVerdict, IsFound}
use Rattle.book_file.specs.declared.book.Book.{Book}
use Rattle.book_answers.specs.declared.answer.Answer.{Answer}
use Rattle.book_answers.specs.declared.from_file.Printed.{Printed}

abbrev pub form_of : Bool → Form
form_of true = Json
form_of false = Columns

-- ---- sound rows

-- the text, or the refusal `missing` if there is no text
abbrev pub text_or : Refusal → Option (List ℕ) → Result (List ℕ) Refusal
text_or missing (Some text) = Ok text
text_or missing None = Err missing

-- the output for sound rows, or the refusal if the batch or the product doesn't exist
abbrev pub sound_text : Form → Book → Ask → Result (List ℕ) Refusal
sound_text form book Check = Ok (check_text form (number_of book.version) None book.tables)
sound_text form book Lists = Ok (list_text form book.size book.tables)
sound_text form book (Cards batch) = text_or BatchUnknown (cards_of form book.tables batch)
sound_text form book (Blanks product state) = text_or ProductUnknown (blanks_of form book.tables product state)
sound_text form book Machines = Ok (machines_text form book.tables)
sound_text form book (Sheet batch) = text_or BatchUnknown (sheet_of book.tables batch)

abbrev pub text_or_none : Result (List ℕ) Refusal → List ℕ
text_or_none (Ok text) = text
text_or_none (Err missing) = []

abbrev pub end_of_text : Result (List ℕ) Refusal → End
end_of_text (Ok text) = Done
end_of_text (Err missing) = NotReported missing

-- The answer `a` has the text `found`, or its outcome is the refusal.
abbrev pub Gives : Result (List ℕ) Refusal → Answer → Type 0
Gives found a = (a.text.items ≡ text_or_none found) × (a.end ≡ end_of_text found)

-- ---- other rows

abbrev pub damaged_text : Form → Book → Ask → Rule → List ℕ
damaged_text form book Check rule = check_text form (number_of book.version) (Some rule) book.tables
damaged_text form book _ rule = []

-- ---- all rows

abbrev pub text_by : Form → Book → Ask → Option Rule → List ℕ
text_by form book ask None = text_or_none (sound_text form book ask)
text_by form book ask (Some rule) = damaged_text form book ask rule

abbrev pub end_by : Form → Book → Ask → Option Rule → End
end_by form book ask None = end_of_text (sound_text form book ask)
end_by form book ask (Some rule) = Damaged

-- the output of the subcommand
abbrev pub text_of : BookWords → Book → List ℕ
text_of w book = text_by (form_of w.json) book w.ask book.failing

-- the outcome of the run if the output is written
abbrev pub end_of : BookWords → Book → End
end_of w book = end_by (form_of w.json) book w.ask book.failing

abbrev pub IsAnswer : BookWords → Book → Answer → Type 0
IsAnswer w book a = (a.text.items ≡ text_of w book) × (a.end ≡ end_of w book)

-- ---- printing

-- the outcome `end`, or `Unwritten` if the write failed
abbrev pub end_written : End → Result (Unit {0}) WriteFailed → End
end_written end (Ok u) = end
end_written end (Err e) = Unwritten

-- An allocation failed and nothing is written, or the output is written, or only a prefix of it
-- because the writer failed.
abbrev pub Prints : BookWords → Book → Option (List ℕ) → Option (List ℕ) → End → Type 0
Prints w book before after end =
    ((end ≡ Memory) × (after ≡ before))
    ⊎ ((written : Result (Unit {0}) WriteFailed) × Writes before after (text_of w book) written × (end ≡ end_written (end_of w book) written))

-- The reply of a book with its verdict is printed, and `printed` names the rule that the book
-- breaks. If the two files have returned what was written, the book has the rows of the database
-- that they held when they were opened.
pub record PrintsFile {D : Type 0} (g : Ghosts D) (image : Image) (w : BookWords) (before after : Option (List ℕ)) (printed : Printed) : Type 0 where
  pub book : Book
  pub files : Files D
  pub found : InFiles g image (λ db. IsFound db book) files
  pub verdict : HasVerdict book.tables book.failing
  pub failing : printed.failing ≡ book.failing
  pub prints : Prints w book before after printed.end
