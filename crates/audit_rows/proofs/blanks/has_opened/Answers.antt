use Rattle.std.proofs.Common.{◌∙◌, List, ap, map}
use Rattle.std.specs.Prelude.{IsPermutation}
use Rattle.table_rows.specs.Tables.{StoredBlank, StoredSession, Tables}
use Rattle.audit_laws.specs.Audited.{opened_rows}
use Rattle.audit_order.proofs.Tested.{test_of}
use Rattle.audit_rows.proofs.blanks.has_opened.Goals as goal

abbrev AreOpened : List StoredBlank → List StoredSession → Type 0
AreOpened blanks sessions = IsPermutation (map (λ (b : StoredBlank). b.serial) (opened_rows blanks)) (map (λ (s : StoredSession). s.serial) sessions)

pub returns : goal.returns
returns c =
    test_of (AreOpened c.args.tables.now.blanks) c.are_opened.result (c.deref-2.ensures.value ∙ ap (λ (t : Tables). t.sessions) c.tables.view_is)
    (test_of (λ (blanks : List StoredBlank). AreOpened blanks c.deref-2.result.now) c.are_opened.result (c.deref.ensures.value ∙ ap (λ (t : Tables). t.blanks) c.tables.view_is) c.are_opened.ensures)
