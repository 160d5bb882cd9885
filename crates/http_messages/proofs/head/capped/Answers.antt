use Rattle.std.proofs.Common.{◌∙◌, ◌+◌, ◌*◌, ap}
use Rattle.std.specs.Prelude.{min}
use Rattle.std.specs.Char.{is_ascii_digit}
use Rattle.text_io.specs.Inputs.{most_input}
use Rattle.http_messages.proofs.HeadLemmas.{all_at, one_digit_more}
use Rattle.http_messages.proofs.head.capped.Goals as goal

pub loop-digit-preserved : goal.loop-digit-preserved
loop-digit-preserved c =
    let digits = c.args.digits.now in
    let i = c.loop-digit.digit-index in
    let digit = all_at is_ascii_digit digits i c.requires c.loop-digit-test.true in
    c.min-number.ensures ∙ ap (λ d. min (c.loop-digit.number * 10 + d) (most_input + 1)) c.from.ensures
    ∙ one_digit_more digits i c.loop-digit.number c.loop-digit-test.true digit c.loop-digit.invariant
