use Rattle.std.proofs.Common.{◌≡◌, ◌∙◌, true, All, List, ap, subst}
use Rattle.job_facts.specs.Contents.{Entry, IsEntry}
use Rattle.table_rows.specs.Tables.{Tables}
use Rattle.audit_rows.proofs.replies.has_entries.Goals as goal

pub returns : goal.returns
returns c =
    let replies = c.deref.ensures.value ∙ ap (λ (t : Tables). t.replies) c.tables.view_is in
    subst (λ (es : List Entry). (c.are_entries.result ≡ true → All IsEntry es) × (All IsEntry es → c.are_entries.result ≡ true)) replies c.are_entries.ensures
