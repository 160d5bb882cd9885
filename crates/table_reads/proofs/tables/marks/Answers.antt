use Rattle.std.proofs.Common.{inl, inr, subst, sym}
use Rattle.sqlite.specs.Held.{state}
use Rattle.sql_base.proofs.Selecting.{if_ok}
use Rattle.table_reads.proofs.TableReads.{MarksRead, marks_read_three, marks_read_two}
use Rattle.table_reads.proofs.tables.marks.Goals as goal

pub returns-in-Two : goal.returns-in-Two
returns-in-Two g c = record {
  value = λ clean.
      let old = state g.S.Store c.args.conn.now in
      if_ok c.whole.result _ _ (λ found value. elim c.in-Two.is [
        | inl is ↦ subst (λ v. MarksRead v old.now found) (sym is) (marks_read_two old found value)
        | inr is ↦ subst (λ v. MarksRead v old.now found) (sym is) (marks_read_three old found value)
      ]) (c.whole.ensures.value clean);
  looks = c.whole.ensures.looks;
}
