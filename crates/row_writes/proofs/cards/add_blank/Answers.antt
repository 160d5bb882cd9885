use Rattle.table_rows.specs.Tables.{StoredBlank, with_blank}
use Rattle.row_writes.proofs.PuttingCards.{blank_added}
use Rattle.row_writes.proofs.Writing.{writes}
use Rattle.row_writes.proofs.cards.add_blank.Goals as goal

pub returns : goal.returns
returns g c =
    let b : StoredBlank = record { serial = c.args.serial; lot = c.args.lot.now; discarded = c.args.discarded } in
    writes g.S.Store (with_blank b) c.args.tx.now.conn c.execute.new.self.conn _ _ (λ count. blank_added _ _ b count)
    c.execute.result c.execute.ensures.ended c.execute.ensures.same_reference c.execute.ensures.survives
    (λ clean. rw (c.int.ensures, c.int-2.ensures, c.from.ensures, c.bytes.ensures.value) at (c.execute.ensures.runs clean))
