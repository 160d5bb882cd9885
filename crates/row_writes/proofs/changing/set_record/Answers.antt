use Rattle.table_rows.specs.Tables.{with_record_set}
use Rattle.row_writes.proofs.Setting.{record_changed}
use Rattle.row_writes.proofs.Writing.{writes}
use Rattle.row_writes.proofs.changing.set_record.Goals as goal

pub returns : goal.returns
returns g c =
    let a = c.args in
    let p = a.place.now in
    writes g.S.Store (with_record_set p.batch p.place a.stands p.spoiled p.remakes) a.tx.now.conn c.execute.new.self.conn _ _ (record_changed p.batch p.place a.stands p.spoiled p.remakes _ _)
    c.execute.result c.execute.ensures.ended c.execute.ensures.same_reference c.execute.ensures.survives
    (λ clean. rw (c.int.ensures, c.int-2.ensures, c.int-3.ensures, c.int-4.ensures, c.int-5.ensures, c.record_code.ensures) at (c.execute.ensures.runs clean))
