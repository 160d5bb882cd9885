use Rattle.std.proofs.Common.{◌∙◌, sym, arith}
use Rattle.text_io.proofs.NumberLemmas.{is_number_is, number_is_small, number_is_some}
use Rattle.text_io.proofs.numbers.number_in.Goals as goal

pub returns-then-is_number-clause-range : goal.returns-then-is_number-clause-range
returns-then-is_number-clause-range c =
    let text = c.args.text.now in
    let h = is_number_is text (sym c.is_number.ensures ∙ c.if-is_number.true) in
    (omega (arith, c.decimal.ensures, number_is_some text h), omega (arith, c.decimal.ensures, number_is_small text h))
