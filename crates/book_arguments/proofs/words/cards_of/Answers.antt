use Rattle.std.proofs.lemmas.Result.{err_from_is_err_and}
use Rattle.clap.specs.Words.{found_of, rows_of}
use Rattle.book_arguments.proofs.ReadLemmas.{cards_without_batch}
use Rattle.book_arguments.proofs.words.cards_of.Goals as goal

pub returns-in_err-batch-clause-unread : goal.returns-in_err-batch-clause-unread
returns-in_err-batch-clause-unread c =
    let p = err_from_is_err_and c.from_residual.result c.from_residual.ensures.1 in
    rw (p.1, p.2) (cards_without_batch (rows_of (found_of c.args.values.now)) c.in_err-batch.field-0.0 c.in_err-batch.ensures.unread)
