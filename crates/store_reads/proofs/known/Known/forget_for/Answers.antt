use Rattle.std.proofs.Common.{◌≡◌, [], All, rules, subst, sym}
use Rattle.std.proofs.lemmas.Fn.{filter_same}
use Rattle.std.proofs.lemmas.List.Elements.{All-filter, All-nil}
use Rattle.table_rows.specs.After.{rows_written}
use Rattle.store_reads.specs.Counted.{AreCountersIn, leaves_counters}
use Rattle.store_reads.specs.Fixed.{fixed}
use Rattle.store_reads.specs.Known.{IsKnownIn, known_counters, known_records}
use Rattle.store_reads.proofs.Counted.{left_after}
use Rattle.store_reads.proofs.Knowing.{known_after}
use Rattle.store_reads.proofs.known.Known.forget_for.Goals as goal

pub returns-then-not-leaves_fixed-clause-after : goal.returns-then-not-leaves_fixed-clause-after
returns-then-not-leaves_fixed-clause-after c t entry known =
    let w = c.args.writing.now in
    let none : c.clear.new.self.items ≡ [] = search rules in
    record {
      records = λ apart. subst (All (IsKnownIn (fixed (rows_written w entry t)))) (sym none) (All-nil (IsKnownIn (fixed (rows_written w entry t))));
      standing = λ apart. tt;
      counted = subst (All (AreCountersIn (rows_written w entry t)))
          (sym (filter_same _ (λ s. leaves_counters w s.batch) _ (λ x b f' k. search rules) _ _ c.retain.ensures.filtered)) (left_after w entry t (known_counters c.args.self.now) known.counted);
    }

pub returns-else-not-leaves_fixed-clause-before : goal.returns-else-not-leaves_fixed-clause-before
returns-else-not-leaves_fixed-clause-before c t known =
    let w = c.args.writing.now in
    record {
      records = known.records;
      standing = λ apart. tt;
      counted = subst (All (AreCountersIn t)) (sym (filter_same _ (λ s. leaves_counters w s.batch) _ (λ x b f' k. search rules) _ _ c.retain.ensures.filtered))
          (All-filter (λ s. leaves_counters w s.batch) (AreCountersIn t) (known_counters c.args.self.now) known.counted);
    }

pub returns-else-not-leaves_fixed-clause-after : goal.returns-else-not-leaves_fixed-clause-after
returns-else-not-leaves_fixed-clause-after c t entry known =
    let w = c.args.writing.now in
    record {
      records = known_after w entry t (known_records c.args.self.now) (search rules) known.records;
      standing = λ apart. tt;
      counted = subst (All (AreCountersIn (rows_written w entry t)))
          (sym (filter_same _ (λ s. leaves_counters w s.batch) _ (λ x b f' k. search rules) _ _ c.retain.ensures.filtered)) (left_after w entry t (known_counters c.args.self.now) known.counted);
    }
