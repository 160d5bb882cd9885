use Rattle.std.proofs.Common.{codes}
use Rattle.clap.specs.Words.{found_of, rows_of}
use Rattle.book_arguments.proofs.OptionLemmas.{flag_there, no_flag}
use Rattle.book_arguments.proofs.ReadLemmas.{form_there, no_form}
use Rattle.book_arguments.proofs.words.json_of.Goals as goal

pub returns-in_default-clause-some : goal.returns-in_default-clause-some
returns-in_default-clause-some c =
    let f = found_of c.args.values.now in
    form_there (rows_of f) c.args.name.now c.in_default.not-sheet c.get_one.result
    (flag_there _ (codes "json") f c.get_one.result c.get_one.ensures.none c.get_one.ensures.value)

pub returns-in_default-clause-none : goal.returns-in_default-clause-none
returns-in_default-clause-none c none =
    let f = found_of c.args.values.now in
    no_form (rows_of f) c.args.name.now c.in_default.not-sheet (no_flag _ (codes "json") f c.get_one.result c.get_one.ensures.value none)
