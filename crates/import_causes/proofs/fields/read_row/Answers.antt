use Rattle.std.proofs.Common.{◌+◌, drop, subst, sym}
use Rattle.std.proofs.lemmas.List.{drop_more}
use Rattle.import_causes.specs.RowTexts.{IsOf, IsReading, first_row}
use Rattle.import_causes.specs.declared.fields.RowText.{RowText}
use Rattle.import_causes.proofs.fields.read_row.Goals as goal

pub returns-then-branch : goal.returns-then-branch
returns-then-branch c =
    let l = c.loop-byte in
    let text = c.args.text.now in
    let reading = subst (IsReading text l.reader) (drop_more text l.byte-index 0 c.loop-byte-test.true) l.invariant.reading in
    let read = rw c.if-branch.true at (c.in_ok-take.ensures.read text (drop (l.byte-index + 1) text) reading) in
    subst (λ (row : RowText). IsOf row (first_row text)) (sym c.into_row.ensures) read
