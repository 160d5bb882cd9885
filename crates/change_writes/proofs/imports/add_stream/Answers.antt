use Rattle.std.proofs.Common.{◌+◌, ◌∙◌, length, refl, sym, subst, arith, rules}
use Rattle.std.proofs.lemmas.Bool.Decides.{nat_tests}
use Rattle.sqlite.specs.State.{HasCleanDisk}
use Rattle.sqlite.specs.Held.{state}
use Rattle.sqlite.proofs.InsideLemmas.{keeps_then}
use Rattle.sql_base.proofs.Lasting.{outlives}
use Rattle.change_writes.specs.Imports.{IsImported}
use Rattle.change_writes.proofs.FileRows.{all_imported, few_lines, imported_more, none_imported, of_file}
use Rattle.change_writes.proofs.Parts.{failed_many}
use Rattle.change_writes.proofs.imports.add_stream.Goals as goal

pub loop-next-init : goal.loop-next-init
loop-next-init g c = record {
  same_reference = refl;
  imported = λ check raw is. none_imported check raw c.args.batch _ _ (state g.S.Store c.args.tx.now.conn.now) c.requires.start.0 is;
  kept = λ clean. record { was_open = λ h. h; committed = λ h. refl };
  survives = search rules;
}

pub next_rows-requires-clause-taken : goal.next_rows-requires-clause-taken
next_rows-requires-clause-taken g c =
    let v = c.args in
    let l = c.loop-next in
    let start = c.requires.start.1 in
    of_file start.0 start.1.0 v.batch l.names.keys l.line l.stream (state g.S.Store v.tx.now.conn.now) (state g.S.Store l.tx.conn.now)
    (l.invariant.imported start.0 start.1.0 start.1.1)

pub returns-then-is_empty : goal.returns-then-is_empty
returns-then-is_empty g c = λ check raw is.
    let l = c.loop-next in
    record {
      wrote = λ clean.
          let a = state g.S.Store c.args.tx.now.conn.now in
          let b = state g.S.Store l.tx.conn.now in
          let i = l.invariant.imported check raw is in
          let next = c.in_ok-next.next in
          let takes = c.in_ok-next.ensures.rows check raw i.taken i.is in
          let empty = sym c.is_empty.ensures ∙ c.if-is_empty.true in
          record {
            well = all_imported check raw c.args.batch l.names.keys l.line l.stream a b i next.rows.items next.records.items c.next_rows.new.names.keys c.next_rows.new.stream takes
                (grind (arith, nat_tests, empty, next.rows.ok)) c.in_ok-next.ensures.last clean;
            kept = l.invariant.kept clean;
          };
      same_reference = l.invariant.same_reference;
      survives = l.invariant.survives;
    }

pub returns-in_err-add_next : goal.returns-in_err-add_next
returns-in_err-add_next g c = λ check raw is. record {
  wrote = λ clean.
      let a = state g.S.Store c.args.tx.now.conn.now in
      let b = state g.S.Store c.loop-next.tx.conn.now in
      let d = state g.S.Store c.add_next.new.tx.conn.now in
      let early : HasCleanDisk b = omega (arith, c.add_next.ensures.survives.clean) in
      failed_many _ a d _ (search rules) (keeps_then a b d (c.loop-next.invariant.kept early) (c.in_err-add_next.ensures.wrote clean).kept);
  same_reference = c.add_next.ensures.same_reference ∙ c.loop-next.invariant.same_reference;
  survives = outlives c.loop-next.invariant.survives c.add_next.ensures.survives;
}

pub overflow_cast-line : goal.overflow_cast-line
overflow_cast-line g c =
    let start = c.requires.start.1 in
    let i = c.loop-next.invariant.imported start.0 start.1.0 start.1.1 in
    omega (arith, few_lines (c.in_ok-next.ensures.rows start.0 start.1.0 i.taken i.is), c.len.ensures)

pub overflow_add-line : goal.overflow_add-line
overflow_add-line g c =
    let start = c.requires.start.1 in
    let i = c.loop-next.invariant.imported start.0 start.1.0 start.1.1 in
    omega (arith, few_lines (c.in_ok-next.ensures.rows start.0 start.1.0 i.taken i.is), c.len.ensures)

pub loop-next-smaller : goal.loop-next-smaller
loop-next-smaller g c =
    let start = c.requires.start.1 in
    let i = c.loop-next.invariant.imported start.0 start.1.0 start.1.1 in
    let some = sym c.is_empty.ensures ∙ c.if-is_empty.false in
    grind (arith, nat_tests, few_lines (c.in_ok-next.ensures.rows start.0 start.1.0 i.taken i.is), c.len.ensures, c.in_ok-next.next.rows.ok, some)

pub loop-next-preserved : goal.loop-next-preserved
loop-next-preserved g c =
    let l = c.loop-next in
    let a = state g.S.Store c.args.tx.now.conn.now in
    let b = state g.S.Store l.tx.conn.now in
    let d = state g.S.Store c.add_next.new.tx.conn.now in
    let next = c.in_ok-next.next in
    let early = λ (clean : HasCleanDisk d). let it : HasCleanDisk b = omega (arith, c.add_next.ensures.survives.clean) in it in
    record {
      same_reference = c.add_next.ensures.same_reference ∙ l.invariant.same_reference;
      imported = λ check raw is.
          let i = l.invariant.imported check raw is in
          let takes = c.in_ok-next.ensures.rows check raw i.taken i.is in
          subst (λ n. IsImported check raw c.args.batch c.next_rows.new.names.keys n c.next_rows.new.stream a d)
          {x = l.line + length next.rows.items} {y = l.line + c.len.result} (omega (arith, c.len.ensures, next.rows.ok))
          (imported_more check raw c.args.batch l.names.keys l.line l.stream a b i next.rows.items next.records.items c.next_rows.new.names.keys c.next_rows.new.stream takes
          d early (λ clean. (c.in_ok-add_next.ensures.wrote clean).well));
      kept = λ clean. keeps_then a b d (l.invariant.kept (early clean)) (c.in_ok-add_next.ensures.wrote clean).kept;
      survives = search rules;
    }
