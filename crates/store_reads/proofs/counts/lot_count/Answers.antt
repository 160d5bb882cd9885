use Rattle.std.proofs.Common.{sym, ◌∙◌}
use Rattle.sqlite.specs.Held.{state}
use Rattle.store_reads.proofs.ReadContents.{reads}
use Rattle.store_reads.proofs.counts.lot_count.Goals as goal

pub returns : goal.returns
returns g c = record {
  value = reads (state g.S.Store c.args.conn.now) (state g.S.Store c.lot_count.new.conn) c.lot_count.result _ _ c.lot_count.ensures.found (λ d sound x is. is ∙ sym (c.numbers_of_rows.ensures.lots d.facts));
  looks = c.lot_count.ensures.looks;
}
