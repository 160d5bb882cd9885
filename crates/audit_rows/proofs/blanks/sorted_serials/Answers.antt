use Rattle.std.proofs.Common.{List, ℕ, subst}
use Rattle.std.specs.Prelude.{IsPermutation}
use Rattle.std.proofs.lemmas.List.Sorted.{IsNonDecreasingBy-from_sort}
use Rattle.audit_rows.proofs.blanks.sorted_serials.Goals as goal

pub returns-clause-rising : goal.returns-clause-rising
returns-clause-rising c = IsNonDecreasingBy-from_sort (λ x. x) c.sort.new.self.items c.in_ok-sort.ensures.sorted

pub returns-clause-same : goal.returns-clause-same
returns-clause-same c = subst (λ (xs : List ℕ). IsPermutation xs c.sort.new.self.items) c.in_ok-serials.ensures c.sort.ensures.permutation
