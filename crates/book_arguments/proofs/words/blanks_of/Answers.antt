use Rattle.std.proofs.lemmas.Result.{err_from_is_err_and}
use Rattle.clap.specs.Words.{found_of, rows_of}
use Rattle.book_arguments.proofs.ReadLemmas.{without_product, without_state}
use Rattle.book_arguments.proofs.words.blanks_of.Goals as goal

pub returns-in_err-product-clause-unread : goal.returns-in_err-product-clause-unread
returns-in_err-product-clause-unread c =
    let p = err_from_is_err_and c.from_residual.result c.from_residual.ensures.1 in
    rw (p.1, p.2) (without_product (rows_of (found_of c.args.values.now)) c.in_err-product.field-0.0 c.in_err-product.ensures.unread)

pub returns-in_err-state-clause-unread : goal.returns-in_err-state-clause-unread
returns-in_err-state-clause-unread c =
    let p = err_from_is_err_and c.from_residual-in_err-state.result c.from_residual-in_err-state.ensures.1 in
    rw (p.1, p.2) (without_state (rows_of (found_of c.args.values.now)) c.in_err-state.field-0.0 c.in_err-state.ensures.unread)
