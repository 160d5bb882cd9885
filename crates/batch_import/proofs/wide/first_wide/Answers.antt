use Rattle.std.proofs.Common.{◌∙◌, refl, sym, arith}
use Rattle.std.proofs.lemmas.Bool.{lt-ltb, le-ltb}
use Rattle.std.proofs.lemmas.List.{at_drop_all}
use Rattle.batch_import.specs.Grammar.{state_of}
use Rattle.batch_import.specs.WideRows.{wide_after}
use Rattle.batch_import.proofs.WideLemmas.{byte-on, stays}
use Rattle.batch_import.proofs.wide.first_wide.Goals as goal
use Rattle.batch_import.proofs.wide.first_wide.Goals.{in-Skip, in-EndField+else-fields-gt4, in-EndRow}

pub returns-then-fields-gt4 : goal.returns-then-fields-gt4
returns-then-fields-gt4 c =
    let l = c.loop-byte in
    let on = byte-on c.args.text.now l.byte-index l.records l.fields (state_of l.place) (state_of c.step-next.result.0) c.step-next.result.1 c.loop-byte-test.true c.step-next.ensures.place c.step-next.ensures.effect in
    sym (l.invariant.rest ∙ on ∙ rw (c.in-EndField.is, lt-ltb 4 l.fields c.if-fields-gt4.true) refl)

pub loop-byte-preserved : goal.loop-byte-preserved
loop-byte-preserved c =
    let l = c.loop-byte in
    let on = byte-on c.args.text.now l.byte-index l.records l.fields (state_of l.place) (state_of c.step-next.result.0) c.step-next.result.1 c.loop-byte-test.true c.step-next.ensures.place c.step-next.ensures.effect in
    let so_far = l.invariant.rest ∙ on in
    elim c.match-effect.branch [
      | in-Skip w ↦ record {
        records = omega (arith, w.records-is, l.invariant.records);
        fields = omega (arith, w.fields-is, l.invariant.fields);
        rest = so_far ∙ stays _ l.records l.fields _ w.in-Skip.is ∙ rw (w.records-is, w.fields-is) refl;
      }
      | in-EndField+else-fields-gt4 w ↦ record {
        records = omega (arith, w.records-is, l.invariant.records);
        fields = omega (arith, w.fields-is, w.if-fields-gt4.false);
        rest = so_far ∙ rw (w.in-EndField.is, le-ltb 4 l.fields w.if-fields-gt4.false, w.records-is, w.fields-is) refl;
      }
      | in-EndRow w ↦ record {
        records = omega (arith, w.records-is, l.invariant.records);
        fields = omega (arith, w.fields-is);
        rest = so_far ∙ rw (w.in-EndRow.is, w.records-is, w.fields-is) refl;
      }
    ]

pub returns : goal.returns
unfolding wide_after
returns c =
    let l = c.loop-byte in
    sym (l.invariant.rest ∙ at_drop_all (wide_after (state_of l.place) l.records l.fields) c.args.text.now l.byte-index (omega (arith, c.loop-byte-test.false)))
