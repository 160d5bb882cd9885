use Rattle.std.proofs.Common.{◌≡◌, ◌+◌, ◌*◌, ◌∙◌, arith, take}
use Rattle.std.specs.Str.Parse.{digits_value}
use Rattle.text_io.proofs.NumberLemmas.{is_number_is, number_more, so_far_small}
use Rattle.text_io.proofs.numbers.decimal.Goals as goal

more : (c : goal.After-from) → c.loop-digit.number * 10 + c.from.result ≡ digits_value 10 (take (c.loop-digit.digit-index + 1) c.args.digits.now)
more c =
    let digits = c.args.digits.now in
    let i = c.loop-digit.digit-index in
    (λ j. c.loop-digit.invariant j * 10 + c.from.ensures j) ∙ number_more digits i (is_number_is digits c.requires) c.loop-digit-test.true

pub overflow_mul-number : goal.overflow_mul-number
overflow_mul-number c =
    let digits = c.args.digits.now in
    let i = c.loop-digit.digit-index in
    let h = is_number_is digits c.requires in
    omega (arith, c.loop-digit.invariant, number_more digits i h c.loop-digit-test.true, so_far_small digits (i + 1) h)

pub overflow_add-number : goal.overflow_add-number
overflow_add-number c = omega (arith, more c, so_far_small c.args.digits.now (c.loop-digit.digit-index + 1) (is_number_is c.args.digits.now c.requires))

pub loop-digit-preserved : goal.loop-digit-preserved
loop-digit-preserved c = more c
