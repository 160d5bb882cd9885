use Rattle.table_rows.specs.Tables.{StoredRemake, with_remake}
use Rattle.row_writes.proofs.Putting.{remake_added}
use Rattle.row_writes.proofs.Writing.{writes_with_cause}
use Rattle.row_writes.proofs.inserts.add_remake.Goals as goal

pub returns : goal.returns
returns g c =
    let r : StoredRemake = record { batch = c.args.batch; place = c.args.place; turn = c.args.turn } in
    writes_with_cause g.S.Store (with_remake r) c.args.tx.now.conn c.execute.new.self.conn _ _ (λ count. remake_added _ _ r count)
    c.execute.result c.execute.ensures.ended c.execute.ensures.same_reference c.execute.ensures.survives
    (λ clean. rw (c.int.ensures, c.int-2.ensures, c.int-3.ensures) at (c.execute.ensures.runs clean))
