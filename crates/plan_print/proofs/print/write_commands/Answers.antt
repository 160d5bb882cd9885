use Rattle.std.proofs.Common.{take, subst, arith, take_all}
use Rattle.std.specs.Io.KnownBytes.{Appends}
use Rattle.std.specs.List.{flat_map}
use Rattle.hex.specs.Hex.{encode_upper}
use Rattle.store_data.specs.Sequence.{sequence}
use Rattle.text_io.specs.Written.{AppendsBeginning}
use Rattle.text_io.proofs.Pieces.{next_begun, next_written, stopped}
use Rattle.text_io.specs.Written.{line}
use Rattle.plan_print.specs.Printed.{command_lines}
use Rattle.plan_print.proofs.print.write_commands.Goals as goal

pub returns-in_err-write_text : goal.returns-in_err-write_text
unfolding command_lines
returns-in_err-write_text g c =
    let before = g.W.Write.contents c.args.writer.now in
    let mid = g.W.Write.contents c.loop.writer in
    let after = g.W.Write.contents c.write_text.new.writer in
    stopped _ before after (command_lines c.args.plan.now) c.from_residual.result c.from_residual.ensures.1
    (next_begun (λ command. line (encode_upper command)) (sequence c.args.plan.now) c.loop.counter (take c.put-size.result c.put-size.new.out) before mid after
    (c.put-size.ensures.command c.loop.counter c.loop.invariant.at) c.loop.invariant.written
    (subst (AppendsBeginning mid after) c.put_line-written.ensures.line c.in_err-write_text.ensures))

pub loop-preserved : goal.loop-preserved
loop-preserved g c =
    let before = g.W.Write.contents c.args.writer.now in
    let mid = g.W.Write.contents c.loop.writer in
    let after = g.W.Write.contents c.write_text.new.writer in
    record {
      at = c.step.ensures c.loop.counter c.loop.invariant.at;
      written = next_written (λ command. line (encode_upper command)) (sequence c.args.plan.now) c.loop.counter (take c.put-size.result c.put-size.new.out) before mid after
          (c.put-size.ensures.command c.loop.counter c.loop.invariant.at) c.loop.invariant.written
          (subst (Appends mid after) c.put_line-written.ensures.line c.in_ok-write_text.ensures);
    }

pub returns : goal.returns
unfolding command_lines
returns g c =
    subst (λ commands. Appends (g.W.Write.contents c.args.writer.now) (g.W.Write.contents c.loop.writer) (flat_map (λ command. line (encode_upper command)) commands))
    (take_all c.loop.counter (sequence c.args.plan.now) (omega (arith, c.loop-test.false, c.count-end.ensures))) c.loop.invariant.written
