use Rattle.std.proofs.Common.{◌≡◌, ◌∙◌, All, List, ap}
use Rattle.std.specs.Prelude.{count_by}
use Rattle.job_facts.specs.States.{is_in}
use Rattle.table_rows.specs.Tables.{StoredBlank, StoredLot, Tables}
use Rattle.image_laws.specs.Decided.{discarded_rows}
use Rattle.audit_order.proofs.Tested.{test_of}
use Rattle.audit_rows.proofs.blanks.has_counts.Goals as goal

abbrev Count : List StoredLot → List StoredBlank → Type 0
Count lots blanks = All (λ (l : StoredLot). l.discarded ≡ count_by (λ (b : StoredBlank). is_in b.serial l.lot) (discarded_rows blanks)) lots

pub returns : goal.returns
returns c =
    test_of (Count c.args.tables.now.lots) c.count_discarded.result (c.deref-2.ensures.value ∙ ap (λ (t : Tables). t.blanks) c.tables.view_is)
    (test_of (λ (lots : List StoredLot). Count lots c.deref-2.result.now) c.count_discarded.result (c.deref.ensures.value ∙ ap (λ (t : Tables). t.lots) c.tables.view_is) c.count_discarded.ensures)
