use Rattle.std.proofs.Common.{rules, ◌≡◌, ◌∙◌, None, Some, codes, ap}
use Rattle.clap.specs.Words.{found_of, rows_of}
use Rattle.book_arguments.proofs.OptionLemmas.{no_state, none_there, text_there}
use Rattle.book_arguments.proofs.words.state_of.Goals as goal

pub returns-in-None-clause-state : goal.returns-in-None-clause-state
returns-in-None-clause-state c =
    let none : c.get_str.result ≡ None = search rules in
    none_there (found_of c.args.values.now) (codes "state") c.get_str.result c.get_str.ensures none

pub returns-in-None-state_named-clause-unread : goal.returns-in-None-state_named-clause-unread
returns-in-None-state_named-clause-unread c =
    let f = found_of c.args.values.now in
    let some : c.get_str.result ≡ Some c.in-Some.word = search rules in
    let none : c.state_named.result ≡ None = search rules in
    no_state (rows_of f) c.in-Some.word.now (text_there f (codes "state") c.get_str.result c.get_str.ensures c.in-Some.word some) (c.state_named.ensures.none none)

pub returns-in-Some-state_named-clause-state : goal.returns-in-Some-state_named-clause-state
returns-in-Some-state_named-clause-state c =
    let f = found_of c.args.values.now in
    let some : c.get_str.result ≡ Some c.in-Some.word = search rules in
    text_there f (codes "state") c.get_str.result c.get_str.ensures c.in-Some.word some ∙ ap Some c.in-Some-state_named.ensures.some
