use Rattle.std.proofs.Common.{rules, ◌≡◌, refl, subst, true, inr, map, sym}
use Rattle.std.proofs.lemmas.Result.{err_from_is_err_and}
use Rattle.clap.specs.Words.{App, is_simple, is_simple_and_free, subcommand_rows_of}
use Rattle.clap.proofs.OnLiterals.{clap_on_literals}
use Rattle.arguments.specs.Words.{ReadsAs, ReadsNot, program}
use Rattle.arguments.specs.declared.words.ValueFault.TheVariants as lacks
use Rattle.arguments.proofs.Refusing.{clap_refuses, is_accepted, is_unread, subcommand_is}
use Rattle.arguments.proofs.words.read_words.Goals as goal

free : is_simple_and_free program ≡ true
unfolding clap_on_literals
free = refl

simple : is_simple program ≡ true
unfolding clap_on_literals
simple = refl

pub matches_of-requires : goal.matches_of-requires
matches_of-requires g c = subst (λ (a : App). is_simple_and_free a ≡ true) (sym c.in_ok-program.ensures) free

pub returns-in_err-matches-clause-refusal : goal.returns-in_err-matches-clause-refusal
returns-in_err-matches-clause-refusal g c =
    let p = err_from_is_err_and c.from_residual-in_err-matches.result c.from_residual-in_err-matches.ensures.1 in
    rw (p.1, p.2) (clap_refuses program ReadsNot (map g.S.AsStr.text c.args.words.now) _ c.in_ok-program.ensures c.in_err-matches.field-0.0 c.in_err-matches.ensures.refused)

pub returns-in-Ok-clause-taken : goal.returns-in-Ok-clause-taken
returns-in-Ok-clause-taken g c = is_accepted program ReadsNot (map g.S.AsStr.text c.args.words.now) _ c.in_ok-program.ensures c.in_ok-matches.ensures.taken

pub returns-in-Ok-clause-meaning : goal.returns-in-Ok-clause-meaning
returns-in-Ok-clause-meaning g c =
    let found = subcommand_is program ReadsNot (map g.S.AsStr.text c.args.words.now) _ c.in_ok-program.ensures simple c.in_ok-matches.matches c.in_ok-matches.ensures.matches in
    subst (λ sub. ReadsAs sub c.in-Ok.words) found c.in-Ok.ensures.meaning

pub returns-in-Err-Nothing-clause-refusal : goal.returns-in-Err-Nothing-clause-refusal
returns-in-Err-Nothing-clause-refusal g c =
    let is : c.in-Err-Nothing.field-0 ≡ lacks.Nothing = search rules in
    let unread = subst (ReadsNot (subcommand_rows_of c.in_ok-matches.matches)) is c.in-Err-Nothing.ensures.unread in
    inr (is_unread program ReadsNot (map g.S.AsStr.text c.args.words.now) _ c.in_ok-program.ensures simple c.in_ok-matches.matches c.in_ok-matches.ensures.matches c.in_ok-matches.ensures.taken lacks.Nothing unread)

pub returns-in-Err-BadName-clause-refusal : goal.returns-in-Err-BadName-clause-refusal
returns-in-Err-BadName-clause-refusal g c =
    let is : c.in-Err-BadName.field-0 ≡ lacks.BadName = search rules in
    let unread = subst (ReadsNot (subcommand_rows_of c.in_ok-matches.matches)) is c.in-Err-BadName.ensures.unread in
    is_unread program ReadsNot (map g.S.AsStr.text c.args.words.now) _ c.in_ok-program.ensures simple c.in_ok-matches.matches c.in_ok-matches.ensures.matches c.in_ok-matches.ensures.taken lacks.BadName unread
