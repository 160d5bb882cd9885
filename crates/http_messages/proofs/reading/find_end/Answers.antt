use Rattle.std.proofs.Common.{◌∙◌, sym, false, arith}
use Rattle.http_messages.specs.Heads.{ends_head}
use Rattle.http_messages.proofs.EndLemmas.{found_at, least_more}
use Rattle.http_messages.proofs.reading.find_end.Goals as goal

pub loop-at-preserved : goal.loop-at-preserved
loop-at-preserved c = least_more (ends_head c.args.bytes.now) c.loop-at.at false c.loop-at.invariant (sym c.ends_with.ensures.value ∙ c.if-ends_with.false)

pub returns-then-ends_with-clause-first : goal.returns-then-ends_with-clause-first
returns-then-ends_with-clause-first c = sym (found_at c.args.bytes.now c.loop-at.at (omega (arith, c.loop-at-test.true)) c.loop-at.invariant (sym c.ends_with.ensures.value ∙ c.if-ends_with.true))
