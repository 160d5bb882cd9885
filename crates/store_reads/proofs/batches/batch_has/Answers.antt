use Rattle.std.proofs.Common.{sym, ◌∙◌}
use Rattle.sqlite.specs.Held.{state}
use Rattle.store_reads.proofs.ReadContents.{reads}
use Rattle.store_reads.proofs.batches.batch_has.Goals as goal

pub returns : goal.returns
returns g c = record {
  value =
      reads (state g.S.Store c.args.conn.now) (state g.S.Store c.batch_has.new.conn) c.batch_has.result _ _ c.batch_has.ensures.found
      (λ d sound x is. is ∙ sym (c.batches_by_rows.ensures.any_with d.facts c.args.name.now c.args.raw.now sound.facts));
  looks = c.batch_has.ensures.looks;
}
