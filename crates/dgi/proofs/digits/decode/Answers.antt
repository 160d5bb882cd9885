use Rattle.std.proofs.Common.{arith, ◌∙◌}
use Rattle.std.proofs.lemmas.List.{length-set}
use Rattle.dgi.proofs.Pairs.{decoded, step_decoded}
use Rattle.dgi.proofs.digits.decode.Goals as goal

pub loop-i-preserved : goal.loop-i-preserved
loop-i-preserved c =
    let fits = c.loop-i.auto.bytes in
    let next = step_decoded c.args.text.now c.loop-i.bytes c.loop-i.i c.loop-i.all (omega arith) (omega arith) c.loop-i.invariant.1 in
    rw (c.digit-high.ensures, c.digit-low.ensures) (length-set c.loop-i.bytes c.loop-i.i _ ∙ fits, next)

pub returns : goal.returns
returns c = decoded c.args.text.now c.loop-i.bytes c.loop-i.i c.loop-i.all (omega arith) (omega arith) c.loop-i.invariant.1
