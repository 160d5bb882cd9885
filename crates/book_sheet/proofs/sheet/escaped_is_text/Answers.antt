use Rattle.book_sheet.proofs.EscapeLemmas.{escaped_text}
use Rattle.book_sheet.proofs.sheet.escaped_is_text.Goals as goal

pub returns : goal.returns
returns c = λ text. escaped_text text
