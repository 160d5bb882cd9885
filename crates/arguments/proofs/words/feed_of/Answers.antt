use Rattle.std.proofs.Common.{rules, ◌≡◌, None}
use Rattle.std.proofs.lemmas.Result.{err_from_is_err_and}
use Rattle.clap.specs.Words.{found_of, rows_of}
use Rattle.arguments.proofs.TextLemmas.{feed_no_boot, feed_no_port, feeds_not_batch, feeds_not_machine}
use Rattle.arguments.proofs.words.feed_of.Goals as goal

pub returns-in_default-clause-unread : goal.returns-in_default-clause-unread
returns-in_default-clause-unread c =
    let none : c.number.result ≡ None = search rules in
    feed_no_port (rows_of (found_of c.args.values.now)) (c.number.ensures.none none)

pub returns-in_default-number-clause-unread : goal.returns-in_default-number-clause-unread
returns-in_default-number-clause-unread c =
    let none : c.number-2.result ≡ None = search rules in
    feed_no_boot (rows_of (found_of c.args.values.now)) (c.number-2.ensures.none none)

pub returns-in_err-machine-clause-unread : goal.returns-in_err-machine-clause-unread
returns-in_err-machine-clause-unread c =
    let p = err_from_is_err_and c.from_residual.result c.from_residual.ensures.1 in
    rw (p.1, p.2) (feeds_not_machine (rows_of (found_of c.args.values.now)) c.in_err-machine.field-0.0 c.in_err-machine.ensures.unread)

pub returns-in_err-batch-clause-unread : goal.returns-in_err-batch-clause-unread
returns-in_err-batch-clause-unread c =
    let p = err_from_is_err_and c.from_residual-in_err-batch.result c.from_residual-in_err-batch.ensures.1 in
    rw (p.1, p.2) (feeds_not_batch (rows_of (found_of c.args.values.now)) c.in_err-batch.field-0.0 c.in_err-batch.ensures.unread)

pub returns-clause-values : goal.returns-clause-values
returns-clause-values c =
    (c.in-Some.ensures.some.0, c.in_ok-machine.ensures.name, c.in-Some-number.ensures.some.0, c.in_ok-batch.ensures.name)
