use Rattle.table_rows.specs.After.{new_session}
use Rattle.table_rows.specs.Tables.{with_session}
use Rattle.row_writes.proofs.PuttingCards.{session_added}
use Rattle.row_writes.proofs.Writing.{writes}
use Rattle.row_writes.proofs.cards.add_session.Goals as goal

pub returns : goal.returns
returns g c =
    let a = c.args in
    writes g.S.Store (with_session (new_session a.id a.place.now a.machine.now a.blank)) c.args.tx.now.conn c.execute.new.self.conn _ _ (session_added a.id a.place.now a.machine.now a.blank _ _)
    c.execute.result c.execute.ensures.ended c.execute.ensures.same_reference c.execute.ensures.survives
    (λ clean. rw (c.int.ensures, c.int-2.ensures, c.int-3.ensures, c.int-4.ensures, c.bytes.ensures.value) at (c.execute.ensures.runs clean))
