use Rattle.std.proofs.Common.{◌≡◌, ◌∙◌, true, All, List, ap, subst}
use Rattle.job_facts.specs.Contents.{IsMark, Mark}
use Rattle.table_rows.specs.Tables.{Tables}
use Rattle.audit_rows.proofs.replies.has_marks.Goals as goal

pub returns : goal.returns
returns c =
    let marks = c.deref.ensures.value ∙ ap (λ (t : Tables). t.marks) c.tables.view_is in
    subst (λ (ms : List Mark). (c.are_marks.result ≡ true → All IsMark ms) × (All IsMark ms → c.are_marks.result ≡ true)) marks c.are_marks.ensures
