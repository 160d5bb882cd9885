use Rattle.std.proofs.Common.{rules, ◌≡◌, ◌∙◌, None, Some, codes, sym, ap}
use Rattle.std.specs.String.{string_bytes}
use Rattle.clap.specs.Words.{found_of}
use Rattle.book_arguments.proofs.OptionLemmas.{is_none, none_there, text_there}
use Rattle.book_arguments.proofs.words.read.Goals as goal

pub returns-in_default-clause-unread : goal.returns-in_default-clause-unread
returns-in_default-clause-unread c =
    let none : c.get_str.result ≡ None = search rules in
    λ w reads. is_none (none_there (found_of c.args.values.now) (codes "db") c.get_str.result c.get_str.ensures none) (string_bytes w.db) reads.1

pub returns-in_default-json_of-clause-unread : goal.returns-in_default-json_of-clause-unread
returns-in_default-json_of-clause-unread c =
    let none : c.json_of.result ≡ None = search rules in
    λ w reads. c.json_of.ensures.none none w.json reads.2

pub returns-clause-meaning : goal.returns-clause-meaning
returns-clause-meaning c =
    let f = found_of c.args.values.now in
    let some : c.get_str.result ≡ Some c.in-Some.db = search rules in (
      c.in_ok-ask.ensures.meaning,
      text_there f (codes "db") c.get_str.result c.get_str.ensures c.in-Some.db some ∙ ap Some (sym c.in_ok-db.ensures.ok),
      c.in-Some-json_of.ensures.some,
    )
