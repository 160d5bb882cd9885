use Rattle.std.proofs.Common.{◌∙◌, sym, arith}
use Rattle.std.proofs.lemmas.List.{at_drop_all}
use Rattle.import_causes.specs.Starts.{line_ends}
use Rattle.import_causes.proofs.StartLemmas.{line-counted, line-none}
use Rattle.import_causes.proofs.start.line_ends.Goals as goal
use Rattle.import_causes.proofs.start.line_ends.Goals.{then-ends_line, else-ends_line}

pub loop-byte-preserved : goal.loop-byte-preserved
loop-byte-preserved c =
    let l = c.loop-byte in
    let text = c.args.text.now in
    elim c.if-ends_line.branch [
      | then-ends_line w ↦ record {
        few = omega (arith, w.ends-is, l.invariant.few);
        all = line-counted text l.byte-index l.ends _ _ l.after_cr _ c.loop-byte-test.true (sym w.if-ends_line.true ∙ c.ends_line.ensures) w.ends-is l.invariant.all;
      }
      | else-ends_line w ↦ record {
        few = omega (arith, w.ends-is, l.invariant.few);
        all = line-counted text l.byte-index l.ends _ _ l.after_cr _ c.loop-byte-test.true (sym w.if-ends_line.false ∙ c.ends_line.ensures) (omega (arith, w.ends-is)) l.invariant.all;
      }
    ]

pub returns-clause-value : goal.returns-clause-value
returns-clause-value c =
    let l = c.loop-byte in
    omega (arith, l.invariant.all, at_drop_all (line_ends l.after_cr) c.args.text.now l.byte-index (omega (arith, c.loop-byte-test.false)), line-none l.after_cr)
