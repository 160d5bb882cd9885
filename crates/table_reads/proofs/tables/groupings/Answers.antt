use Rattle.std.proofs.Common.{inl, inr, subst, sym}
use Rattle.sqlite.specs.Held.{state}
use Rattle.sql_base.proofs.Selecting.{if_ok}
use Rattle.table_reads.proofs.TableReads.{GroupingsRead, groupings_read, unmixed_read_one, unmixed_read_two}
use Rattle.table_reads.proofs.tables.groupings.Goals as goal

pub returns-in-One : goal.returns-in-One
returns-in-One g c = record {
  value = λ clean.
      let old = state g.S.Store c.args.conn.now in
      if_ok c.whole.result _ _ (λ found value. elim c.in-One.is [
        | inl is ↦ subst (λ v. GroupingsRead v old found) (sym is) (unmixed_read_one old found value)
        | inr is ↦ subst (λ v. GroupingsRead v old found) (sym is) (unmixed_read_two old found value)
      ]) (c.whole.ensures.value clean);
  looks = c.whole.ensures.looks;
}

pub returns-in-Three-clause-value : goal.returns-in-Three-clause-value
returns-in-Three-clause-value g c clean =
    let old = state g.S.Store c.args.conn.now in
    if_ok c.whole-in-Three.result _ _ (λ found value. subst (λ v. GroupingsRead v old found) (sym c.in-Three.is) (groupings_read old found value)) (c.whole-in-Three.ensures.value clean)
