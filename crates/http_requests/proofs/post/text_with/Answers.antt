use Rattle.std.proofs.Common.{rules, ◌≡◌, ◌<◌, ◌≤◌, ◌^◌, ◌∙◌, ℕ, List, length, subst, arith}
use Rattle.text_io.specs.Inputs.{most_input}
use Rattle.http_messages.specs.RequestHeads.{IsHeardBefore, IsTarget, request_head}
use Rattle.http_requests.specs.Posts.{post_with, target_with}
use Rattle.http_requests.proofs.PostLemmas.{post_is_heard}
use Rattle.http_requests.proofs.post.text_with.Goals as goal

pub returns-clause-heard : goal.returns-clause-heard
returns-clause-heard c = λ fits.
    let client = c.args.client.now in
    let number = c.args.number in
    let tail = c.args.tail.now in
    let body = c.args.body.now in
    let target : c.deref.result.now ≡ target_with client number tail = c.deref.ensures.value ∙ c.in_ok-target.ensures.target in
    let small : number < 2 ^ 64 = omega (arith, c.ranges.number.fits) in
    let text : c.from_vec.result ≡ post_with client number tail body = search rules in
    let heard = subst (λ (t : List ℕ). IsTarget t → length body ≤ most_input → length (request_head t (length body)) ≤ 8192 → IsHeardBefore t (length body)) target c.push_request_head.ensures.heard in
    post_is_heard client number tail body c.from_vec.result c.in_ok-target.ensures.name small c.requires.seen c.requires.short heard text fits
