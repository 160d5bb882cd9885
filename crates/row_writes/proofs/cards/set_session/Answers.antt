use Rattle.table_rows.specs.Tables.{with_session_set}
use Rattle.row_writes.proofs.Setting.{session_changed}
use Rattle.row_writes.proofs.Writing.{writes}
use Rattle.row_writes.proofs.cards.set_session.Goals as goal

pub returns : goal.returns
returns g c =
    let a = c.args in
    writes g.S.Store (with_session_set a.session a.stands a.words a.cursor.now) c.args.tx.now.conn c.execute.new.self.conn _ _ (session_changed a.session a.stands a.words a.cursor.now _ _)
    c.execute.result c.execute.ensures.ended c.execute.ensures.same_reference c.execute.ensures.survives
    (λ clean. rw (
      c.int.ensures,
      c.int-2.ensures,
      c.int-3.ensures,
      c.int-4.ensures,
      c.int-5.ensures,
      c.int-6.ensures,
      c.int-7.ensures,
      c.session_code.ensures,
      c.from.ensures,
      c.from-2.ensures,
      c.from-3.ensures,
      c.from-4.ensures,
    ) at (c.execute.ensures.runs clean))
