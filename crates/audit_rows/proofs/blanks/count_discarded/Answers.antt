use Rattle.std.proofs.Common.{List, ℕ, map, sym, subst}
use Rattle.std.specs.Prelude.{IsPermutation}
use Rattle.std.specs.List.Sorted.{IsNonDecreasing}
use Rattle.table_rows.specs.Tables.{StoredBlank}
use Rattle.image_laws.specs.Decided.{discarded_rows}
use Rattle.audit_rows.proofs.BlankLemmas.{by_rows, by_serials}
use Rattle.audit_rows.proofs.blanks.count_discarded.Goals as goal

pub count_all-requires-clause-rising : goal.count_all-requires-clause-rising
count_all-requires-clause-rising c = subst (λ (xs : List ℕ). IsNonDecreasing xs) (sym c.deref.ensures.value) c.in_ok-serials.ensures.rising

pub returns : goal.returns
returns c =
    let same = subst (λ (xs : List ℕ). IsPermutation (map (λ (b : StoredBlank). b.serial) (discarded_rows c.args.blanks.now)) xs) (sym c.deref.ensures.value) c.in_ok-serials.ensures.same in (
      λ yes. by_rows c.args.lots.now c.args.blanks.now c.deref.result.now same (c.count_all.ensures.0 yes),
      λ all. c.count_all.ensures.1 (by_serials c.args.lots.now c.args.blanks.now c.deref.result.now same all),
    )
