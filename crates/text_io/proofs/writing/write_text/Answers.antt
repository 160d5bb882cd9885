use Rattle.std.proofs.Common.{◌+◌, arith, length-drop}
use Rattle.text_io.proofs.Pieces.{beginning, written_more}
use Rattle.text_io.proofs.writing.write_text.Goals as goal

pub returns-then-taken-eq0 : goal.returns-then-taken-eq0
returns-then-taken-eq0 g c =
    beginning (g.W.Write.contents c.args.writer.now) (g.W.Write.contents c.write_some-taken.new.writer) c.args.text.now (c.loop-at.at + c.write_some-taken.result)
    (written_more (g.W.Write.contents c.args.writer.now) (g.W.Write.contents c.loop-at.writer) (g.W.Write.contents c.write_some-taken.new.writer) c.args.text.now
    c.loop-at.at c.write_some-taken.result c.loop-at.invariant.written c.write_some-taken.ensures.bytes)

pub loop-at-preserved : goal.loop-at-preserved
loop-at-preserved g c = record {
  inside = omega (arith, length-drop c.loop-at.at c.args.text.now, c.write_some-taken.ensures.bound);
  written = written_more (g.W.Write.contents c.args.writer.now) (g.W.Write.contents c.loop-at.writer) (g.W.Write.contents c.write_some-taken.new.writer) c.args.text.now
      c.loop-at.at c.write_some-taken.result c.loop-at.invariant.written c.write_some-taken.ensures.bytes;
}
