use Rattle.std.proofs.Common.{◌≡◌, ◌∙◌, List, ℕ, false, ap, map}
use Rattle.std.specs.Prelude.{bytes_eq}
use Rattle.audit_rows.proofs.OnceLemmas.{checks_read, name_in}
use Rattle.audit_rows.proofs.ReplyLemmas.{marks_once, once_marks}
use Rattle.audit_rows.proofs.replies.are_marked_once.Goals as goal

pub returns : goal.returns
returns c =
    checks_read (λ (m n : List ℕ). bytes_eq n m ≡ false) name_in c.deref.result.now _ (ap (map name_in) c.deref.ensures.value ∙ c.in_ok-clients.ensures)
    c.are_once.result (marks_once c.args.marks.now) (once_marks c.args.marks.now) c.are_once.ensures
