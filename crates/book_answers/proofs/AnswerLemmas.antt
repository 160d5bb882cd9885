-- Lemmas about printing the output of a subcommand.
use Rattle.std.proofs.Common.{◌≡◌, ◌∙◌, ℕ, List, Option, Ok, Err, inr, refl, subst}
use Rattle.std.specs.Io.KnownBytes.{Appends}
use Rattle.text_io.specs.Written.{AppendsBeginning}
use Rattle.text_io.specs.declared.writing.WriteFailed.{WriteFailed}
use Rattle.subcommands.specs.declared.end.End.TheVariants.{WriteFailed as Unwritten}
use Rattle.book_arguments.specs.declared.words.BookWords.{BookWords}
use Rattle.book_file.specs.declared.book.Book.{Book}
use Rattle.book_answers.specs.Answers.{IsAnswer, Prints}
use Rattle.book_answers.specs.declared.answer.Answer.{Answer}

module _ (w : BookWords) (book : Book) (a : Answer) (is : IsAnswer w book a) (before after : Option (List ℕ)) (text : List ℕ) (whole : text ≡ a.text.items) where
  pub prints_all : Appends before after text → Prints w book before after a.end
  prints_all all = inr (Ok tt, subst (Appends before after) (whole ∙ is.0) all, is.1)

  pub prints_beginning : (e : WriteFailed) → AppendsBeginning before after text → Prints w book before after Unwritten
  prints_beginning e part = inr (Err e, subst (AppendsBeginning before after) (whole ∙ is.0) part, refl)
