use Rattle.std.proofs.Common.{sym, ap, ◌∙◌, rules}
use Rattle.std.proofs.lemmas.List.Sorted.{list_any-IsPermutation}
use Rattle.job_facts.specs.States.{any_overlaps, overlaps}
use Rattle.row_reads.proofs.lots.overlaps.Goals as goal

pub returns : goal.returns
returns g c = record {
  found = λ clean.
      let found = c.in_ok-lots.ensures.found clean in (
        found.0,
        λ t image. c.any_overlaps.ensures ∙ ap (λ lots. any_overlaps lots c.args.first c.args.count) c.as_slice.ensures.value
            ∙ sym (list_any-IsPermutation (overlaps c.args.first c.args.count) _ _ (found.1 t image)),
      );
  looks = search rules;
}
