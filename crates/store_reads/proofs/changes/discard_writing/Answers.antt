use Rattle.std.proofs.Common.{refl}
use Rattle.sqlite.specs.Held.{state}
use Rattle.store_reads.proofs.Placed.{lot_discarded}
use Rattle.store_reads.proofs.ReadContents.{shown}
use Rattle.store_reads.proofs.changes.discard_writing.Goals as goal

pub returns : goal.returns
returns g c = record {
  value =
      let n = c.args.lot.now in
      let row = c.in-Some.row in
      shown (state g.S.Store c.args.conn.now) (state g.S.Store c.lot.new.conn) _ _ (rw c.in-Some.is at c.in_ok-row.ensures.finds.found)
      (λ d sound is. (row.discarded, lot_discarded d.facts n (c.lots_by_name.ensures.discarded d.facts n) row (is (c.lots_by_name.ensures.once d.facts n sound.facts)), refl));
  looks = c.lot.ensures.finds.looks;
}
