use Rattle.std.proofs.Common.{ap, ◌∙◌}
use Rattle.sqlite.specs.Held.{state}
use Rattle.job_facts.specs.States.{any_overlaps}
use Rattle.store_reads.proofs.ReadContents.{reads}
use Rattle.store_reads.proofs.lots.overlaps.Goals as goal

pub returns : goal.returns
returns g c = record {
  value =
      reads (state g.S.Store c.args.conn.now) (state g.S.Store c.overlaps.new.conn) c.overlaps.result _ _ c.overlaps.ensures.found
      (λ d sound x is. is ∙ ap (λ lots. any_overlaps lots c.args.first c.args.count) (c.lots_by_name.ensures.all d.facts));
  looks = c.overlaps.ensures.looks;
}
