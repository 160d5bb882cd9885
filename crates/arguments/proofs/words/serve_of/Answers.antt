use Rattle.std.proofs.Common.{rules, ◌≡◌, ◌∙◌, None, Some, sym, ap, codes}
use Rattle.clap.specs.Words.{found_of, rows_of}
use Rattle.arguments.proofs.TextLemmas.{no_text, serve_no_db, serve_no_port, serve_no_turns, text_read}
use Rattle.arguments.proofs.words.serve_of.Goals as goal

pub returns-in_default-clause-unread : goal.returns-in_default-clause-unread
returns-in_default-clause-unread c =
    let f = found_of c.args.values.now in
    let none : c.get_str.result ≡ None = search rules in
    serve_no_db (rows_of f) (no_text f (codes "db") c.get_str.result c.get_str.ensures none)

pub returns-in_default-number-clause-unread : goal.returns-in_default-number-clause-unread
returns-in_default-number-clause-unread c =
    let none : c.number.result ≡ None = search rules in
    serve_no_port (rows_of (found_of c.args.values.now)) (c.number.ensures.none none)

pub returns-in_default-number-2-clause-unread : goal.returns-in_default-number-2-clause-unread
returns-in_default-number-2-clause-unread c =
    let none : c.number-2.result ≡ None = search rules in
    serve_no_turns (rows_of (found_of c.args.values.now)) (c.number-2.ensures.none none)

pub returns-clause-values : goal.returns-clause-values
returns-clause-values c =
    let f = found_of c.args.values.now in
    let some : c.get_str.result ≡ Some c.in-Some.db = search rules in (
      text_read f (codes "db") c.get_str.result c.get_str.ensures c.in-Some.db some ∙ ap Some (sym c.in_ok-from_str.ensures.ok),
      c.in-Some-number.ensures.some.0,
      c.in-Some-number-2.ensures.some.0,
    )
