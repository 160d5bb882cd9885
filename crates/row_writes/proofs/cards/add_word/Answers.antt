use Rattle.table_rows.specs.Tables.{StoredWord, with_word}
use Rattle.row_writes.proofs.Putting.{word_added}
use Rattle.row_writes.proofs.Writing.{writes}
use Rattle.row_writes.proofs.cards.add_word.Goals as goal

pub returns : goal.returns
returns g c =
    let w : StoredWord = record { session = c.args.session; place = c.args.place; sw = c.args.sw } in
    writes g.S.Store (with_word w) c.args.tx.now.conn c.execute.new.self.conn _ _ (λ count. word_added _ _ w count)
    c.execute.result c.execute.ensures.ended c.execute.ensures.same_reference c.execute.ensures.survives
    (λ clean. rw (c.int.ensures, c.int-2.ensures, c.int-3.ensures, c.from.ensures, c.from-2.ensures) at (c.execute.ensures.runs clean))
