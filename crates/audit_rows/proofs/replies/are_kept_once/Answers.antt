use Rattle.std.proofs.Common.{◌∙◌, ap, map}
use Rattle.audit_rows.specs.Clients.{named}
use Rattle.audit_rows.proofs.OnceLemmas.{checks_read}
use Rattle.audit_rows.proofs.ReplyLemmas.{is_other, kept_once, once_kept}
use Rattle.audit_rows.proofs.replies.are_kept_once.Goals as goal

pub returns : goal.returns
returns c =
    checks_read is_other named c.deref.result.now _ (ap (map named) c.deref.ensures.value ∙ c.in_ok-numbers.ensures)
    c.are_once.result (kept_once c.args.replies.now) (once_kept c.args.replies.now) c.are_once.ensures
