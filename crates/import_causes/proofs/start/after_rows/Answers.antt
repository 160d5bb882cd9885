use Rattle.std.proofs.Common.{◌+◌, drop, length, subst, sym, arith, ◌∙◌}
use Rattle.std.specs.Prelude.{slice_index}
use Rattle.std.proofs.lemmas.List.{drop_all, take_rest}
use Rattle.csv.specs.declared.parser.State.TheVariants as st
use Rattle.batch_import.specs.Grammar.{state_of}
use Rattle.import_causes.proofs.StartLemmas.{IsSkipping, after-zero, skip-at, skip-byte, skip-end, skip-last, skip-row, skip-start}
use Rattle.import_causes.proofs.start.after_rows.Goals as goal
use Rattle.import_causes.proofs.start.after_rows.Goals.{then-is_row_end+else-left-eq1, else-is_row_end}

pub returns-then-rows-eq0-clause-value : goal.returns-then-rows-eq0-clause-value
returns-then-rows-eq0-clause-value c = sym (after-zero c.args.rows st.StartRecord c.args.text.now c.if-rows-eq0.true)

pub loop-i-init : goal.loop-i-init
loop-i-init c = skip-start c.args.text.now c.args.rows (omega (arith, c.if-rows-eq0.false))

pub returns-then-left-eq1-clause-value : goal.returns-then-left-eq1-clause-value
returns-then-left-eq1-clause-value c =
    let l = c.loop-i in
    let text = c.args.text.now in
    let w = skip-at text c.args.rows l.left (state_of l.place) l.i c.loop-i-test.true l.invariant in
    take_rest text (l.i + 1)
    ∙ sym (skip-last text c.args.rows l.left (state_of l.place) (state_of c.step-next.result.0) (slice_index text l.i) (drop (l.i + 1) text) c.step-next.result.1
    c.step-next.ensures.place c.step-next.ensures.effect w (sym c.is_row_end.ensures ∙ c.if-is_row_end.true) c.if-left-eq1.true)

pub loop-i-preserved : goal.loop-i-preserved
loop-i-preserved c =
    let l = c.loop-i in
    let text = c.args.text.now in
    let w = skip-at text c.args.rows l.left (state_of l.place) l.i c.loop-i-test.true l.invariant in
    let now = state_of c.step-next.result.0 in
    let rest = drop (l.i + 1) text in
    elim c.if-is_row_end.branch [
      | then-is_row_end+else-left-eq1 v ↦ rw v.left-is (skip-row text c.args.rows l.left (state_of l.place) now (slice_index text l.i) rest c.step-next.result.1
          c.step-next.ensures.place c.step-next.ensures.effect w (sym c.is_row_end.ensures ∙ v.if-is_row_end.true) v.if-left-eq1.false)
      | else-is_row_end v ↦ rw v.left-is (skip-byte text c.args.rows l.left (state_of l.place) now (slice_index text l.i) rest c.step-next.result.1
          c.step-next.ensures.place c.step-next.ensures.effect w (sym c.is_row_end.ensures ∙ v.if-is_row_end.false))
    ]

pub returns-clause-value : goal.returns-clause-value
returns-clause-value c =
    let l = c.loop-i in
    let text = c.args.text.now in
    let end = subst (IsSkipping text c.args.rows (state_of l.place) l.left) (drop_all l.i text (omega (arith, c.loop-i-test.false))) l.invariant in
    take_rest text (length text) ∙ drop_all (length text) text (omega arith) ∙ sym (skip-end text c.args.rows l.left (state_of l.place) end)
