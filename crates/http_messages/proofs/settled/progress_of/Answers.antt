use Rattle.std.proofs.Common.{arith}
use Rattle.http_messages.proofs.SettledLemmas.{length_on, long_is_message, short_is_broken}
use Rattle.http_messages.proofs.settled.progress_of.Goals as goal

pub returns-then-count-total : goal.returns-then-count-total
returns-then-count-total c = λ bytes more has size.
    let all = length_on bytes more c.args.total has in
    (short_is_broken _ c.args.total all (omega (arith, size, c.if-count-total.true)), all)

pub returns-else-count-total : goal.returns-else-count-total
returns-else-count-total c = λ bytes more has size. long_is_message _ c.args.total (length_on bytes more c.args.total has) (omega (arith, size, c.if-count-total.false))
