use Rattle.std.proofs.Common.{ltb, rules, tests}
use Rattle.std.proofs.lemmas.List.Sorted.{answers_always}
use Rattle.table_rows.specs.Tables.{StoredBlank}
use Rattle.audit_rows.proofs.BlankLemmas.{rising_once}
use Rattle.audit_rows.proofs.blanks.are_blanks_once.Goals as goal

pub returns : goal.returns
returns c =
    rising_once c.args.blanks.now c.is_sorted_by.result c.requires
    (c.is_sorted_by.ensures.cases (λ (b d : StoredBlank). ltb b.serial d.serial) (answers_always _ _ _ (λ f a r g k. search (rules, tests))))
