use Rattle.std.proofs.Common.{◌∙◌, ◌≤◌, ◌+◌, [], Ok, Err, ap, append-nil, arith, length, sym, subst, refl}
use Rattle.text_io.specs.Inputs.{most_input}
use Rattle.http_messages.specs.Heads.{IsJudged}
use Rattle.http_messages.specs.HeadTests.{parts}
use Rattle.http_messages.specs.Progresses.{HasLength, IsProgress}
use Rattle.http_messages.proofs.SettledLemmas.{judged_fits, refused_on}
use Rattle.http_messages.proofs.settled.progress_after.Goals as goal

pub overflow_add-head : goal.overflow_add-head
overflow_add-head c =
    let fits : c.in-Ok.parts.size ≤ most_input = judged_fits c.args.head.now _ (subst (λ r. IsJudged c.args.head.now (parts r)) c.in-Ok.is c.judge.ensures) in
    omega (arith, fits, c.requires)

pub returns-in-Ok : goal.returns-in-Ok
returns-in-Ok c = λ bytes found head size.
    let judged = subst (λ r. IsJudged c.args.head.now (parts r)) c.in-Ok.is c.judge.ensures in
    let has : HasLength bytes (length c.args.head.now + c.in-Ok.parts.size) = (length c.args.head.now, record { method = c.in-Ok.parts.method.now; target = c.in-Ok.parts.target.now; size = c.in-Ok.parts.size }, found, subst (λ h. IsJudged h (parts (Ok c.in-Ok.parts))) (sym head) judged, refl) in
    subst (λ all. IsProgress all c.progress_of.result) (append-nil bytes) (c.progress_of.ensures bytes [] has (ap length (append-nil bytes) ∙ size))

pub returns-in-Err : goal.returns-in-Err
returns-in-Err c = λ bytes found head size.
    let judged = subst (λ r. IsJudged c.args.head.now (parts r)) c.in-Err.is c.judge.ensures in
    (c.in-Err.field-0, λ more. refused_on bytes more (length c.args.head.now) c.in-Err.field-0 found (subst (λ h. IsJudged h (Err c.in-Err.field-0)) (sym head) judged))
