use Rattle.row_writes.specs.Raw.{with_raw_set}
use Rattle.row_writes.proofs.Setting.{raw_changed}
use Rattle.row_writes.proofs.Writing.{writes_with_cause}
use Rattle.row_writes.proofs.changing.set_raw.Goals as goal

pub returns : goal.returns
returns g c =
    let a = c.args in
    writes_with_cause g.S.Store (with_raw_set a.batch a.raw.now) a.tx.now.conn c.execute.new.self.conn _ _ (raw_changed a.batch a.raw.now _ _)
    c.execute.result c.execute.ensures.ended c.execute.ensures.same_reference c.execute.ensures.survives
    (λ clean. rw (c.int.ensures) at (c.execute.ensures.runs clean))
