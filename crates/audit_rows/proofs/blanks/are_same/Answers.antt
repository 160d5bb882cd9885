use Rattle.std.proofs.Common.{◌∙◌, sym}
use Rattle.std.proofs.lemmas.List.Sorted.{IsNonDecreasingBy-from_sort}
use Rattle.audit_rows.proofs.BlankLemmas.{same_if, same_only}
use Rattle.audit_rows.proofs.blanks.are_same.Goals as goal

pub returns : goal.returns
returns c =
    let left = c.sort.new.self.items in
    let right = c.sort-2.new.self.items in (
      λ yes. same_if c.args.first.items c.args.second.items left right c.sort.ensures.permutation c.sort-2.ensures.permutation (sym c.deref.ensures.value ∙ c.is_same_list.ensures.0 yes ∙ c.deref-2.ensures.value),
      λ same. c.is_same_list.ensures.1 (c.deref.ensures.value ∙ same_only c.args.first.items c.args.second.items left right c.sort.ensures.permutation c.sort-2.ensures.permutation
          (IsNonDecreasingBy-from_sort (λ x. x) left c.in_ok-sort.ensures.sorted) (IsNonDecreasingBy-from_sort (λ x. x) right c.in_ok-sort-2.ensures.sorted) same ∙ sym c.deref-2.ensures.value),
    )
