use Rattle.std.proofs.Common.{rules, ◌≡◌, ◌∙◌, None, Some, sym, ap, codes}
use Rattle.std.proofs.lemmas.Result.{err_from_is_err_and}
use Rattle.clap.specs.Words.{found_of, rows_of}
use Rattle.arguments.proofs.TextLemmas.{no_text, report_no_db, reports_not, text_read}
use Rattle.arguments.proofs.words.report_of.Goals as goal

pub returns-in_default-clause-unread : goal.returns-in_default-clause-unread
returns-in_default-clause-unread c =
    let f = found_of c.args.values.now in
    let none : c.get_str.result ≡ None = search rules in
    report_no_db (rows_of f) (no_text f (codes "db") c.get_str.result c.get_str.ensures none)

pub returns-in_err-batch-clause-unread : goal.returns-in_err-batch-clause-unread
returns-in_err-batch-clause-unread c =
    let p = err_from_is_err_and c.from_residual.result c.from_residual.ensures.1 in
    rw (p.1, p.2) (reports_not (rows_of (found_of c.args.values.now)) c.in_err-batch.field-0.0 c.in_err-batch.ensures.unread)

pub returns-clause-values : goal.returns-clause-values
returns-clause-values c =
    let some : c.get_str.result ≡ Some c.in-Some.db = search rules in (
      text_read (found_of c.args.values.now) (codes "db") c.get_str.result c.get_str.ensures c.in-Some.db some ∙ ap Some (sym c.in_ok-from_str.ensures.ok),
      c.in_ok-batch.ensures.name,
    )
