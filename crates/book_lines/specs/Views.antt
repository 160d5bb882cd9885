-- Converts cell values of the code to cell values of the definitions.
use Rattle.book_lines.specs.Lines.{Shown, Nothing, Number, Digits, Word, Status}
use Rattle.book_lines.specs.declared.shown.Shown.{Shown as Given}
use Rattle.book_lines.specs.declared.shown.Shown.TheVariants as given

abbrev pub shown_of : Given → Shown
shown_of given.Nothing = Nothing
shown_of (given.Number n) = Number n
shown_of (given.Digits n) = Digits n
shown_of (given.Word word) = Word word.now
shown_of (given.Status sw) = Status sw
