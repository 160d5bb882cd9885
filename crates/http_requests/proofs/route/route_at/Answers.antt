use Rattle.std.proofs.Common.{◌∙◌, subst}
use Rattle.http_requests.proofs.FormLemmas.{target_agrees}
use Rattle.http_requests.proofs.RouteLemmas.{Agrees}
use Rattle.http_requests.proofs.route.route_at.Goals as goal

pub returns-in-Ok : goal.returns-in-Ok
returns-in-Ok c =
    let e = rw c.requires.forms at c.in-Ok.ensures.found in
    let agrees = subst (λ r. Agrees r c.args.path.now) e (target_agrees c.args.path.now c.requires.text) in
    let taken = rw c.in-Ok.ensures.path at c.route_by.ensures in
    taken agrees.0 ∙ agrees.1

pub returns-in-Err : goal.returns-in-Err
returns-in-Err c =
    let e = rw c.requires.forms at c.in-Err.ensures.missing in
    subst (λ r. Agrees r c.args.path.now) e (target_agrees c.args.path.now c.requires.text)
