use Rattle.book_answers.proofs.AnswerLemmas.{prints_all, prints_beginning}
use Rattle.book_answers.proofs.printing.print_answer.Goals as goal

pub returns-in-Ok-write_text : goal.returns-in-Ok-write_text
returns-in-Ok-write_text g c =
    prints_all c.args.words.now c.args.book.now c.in-Ok.answer c.in-Ok.ensures (g.W.Write.contents c.args.writer.now) (g.W.Write.contents c.write_text.new.writer)
    c.deref.result.now c.deref.ensures.value c.in-Ok-write_text.ensures

pub returns : goal.returns
returns g c =
    prints_beginning c.args.words.now c.args.book.now c.in-Ok.answer c.in-Ok.ensures (g.W.Write.contents c.args.writer.now)
    (g.W.Write.contents c.write_text.new.writer) c.deref.result.now c.deref.ensures.value c.in-Err-write_text.field-0 c.in-Err-write_text.ensures
