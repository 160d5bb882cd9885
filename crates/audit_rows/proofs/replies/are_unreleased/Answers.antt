use Rattle.audit_rows.proofs.ReplyLemmas.{above_as, as_above}
use Rattle.audit_rows.proofs.replies.are_unreleased.Goals as goal

pub returns : goal.returns
returns c = (
  λ above k d within. above_as _ _ _ (c.in_ok-uptos.ensures _) (c.are_above.ensures.0 above k d within),
  λ all. c.are_above.ensures.1 (λ k d within. as_above _ _ _ (c.in_ok-uptos.ensures _) (all k d within)),
)
