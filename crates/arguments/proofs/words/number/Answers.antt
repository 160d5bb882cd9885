use Rattle.std.proofs.Common.{rules, ◌≡◌, ◌<◌, ◌^◌, ℕ, None, Some, arith}
use Rattle.std.specs.Prelude.{Result}
use Rattle.std.specs.Str.Parse.{ExplainsUnsignedError, HasUnsignedDigitsIfOk, ParsesUnsigned}
use Rattle.std.specs.declared.num.ParseIntError.{ParseIntError}
use Rattle.clap.specs.Words.{Text, found_of}
use Rattle.arguments.proofs.NumberLemmas.{number_read}
use Rattle.arguments.proofs.words.number.Goals as goal
use Rattle.arguments.proofs.words.number.Goals.{else-low-number-via-then-low-number+else-number-high, else-low-number-via-else-low-number}

abbrev Gives : Text → Result ℕ ParseIntError → Type 0
Gives t r = ParsesUnsigned 64 10 t r × ExplainsUnsignedError 10 t r × HasUnsignedDigitsIfOk t r

pub returns-in_err-number-clause-none : goal.returns-in_err-number-clause-none
returns-in_err-number-clause-none c none n above below has =
    let gone : c.get_one.result ≡ None = search rules in
    let small : n < 2 ^ 64 = let top = c.ranges.high.fits in omega arith in
    let read : c.get_one.result ≡ Some n =
    (number_read ParseIntError Gives 64 c.args.name.now (found_of c.args.values.now) c.get_one.result (λ u x g. g.0) c.get_one.ensures.none
    c.get_one.ensures.value n).1 (has, small) in
    cc

pub returns-then-number-high-clause-some : goal.returns-then-number-high-clause-some
returns-then-number-high-clause-some c =
    let there : c.get_one.result ≡ Some c.in_ok-number.number = search rules in
    let is = (number_read ParseIntError Gives 64 c.args.name.now (found_of c.args.values.now) c.get_one.result (λ u x g. g.0) c.get_one.ensures.none
    c.get_one.ensures.value c.in_ok-number.number).0 there in
    (is.0, search rules, search rules)

pub returns-else-low-number-clause-none : goal.returns-else-low-number-clause-none
returns-else-low-number-clause-none c none n above below has =
    let there : c.get_one.result ≡ Some c.in_ok-number.number = search rules in
    let small : n < 2 ^ 64 = let top = c.ranges.high.fits in omega arith in
    let read : c.get_one.result ≡ Some n =
    (number_read ParseIntError Gives 64 c.args.name.now (found_of c.args.values.now) c.get_one.result (λ u x g. g.0) c.get_one.ensures.none
    c.get_one.ensures.value n).1 (has, small) in
    let same : n ≡ c.in_ok-number.number = cc in
    elim c.else-low-number.branch [
      | else-low-number-via-then-low-number+else-number-high w ↦ let over : c.args.high < c.in_ok-number.number = w.if-number-high.false in omega arith
      | else-low-number-via-else-low-number w ↦ let under : c.in_ok-number.number < c.args.low = w.if-low-number.false in omega arith
    ]
