use Rattle.std.proofs.Common.{◌≡◌, ◌∙◌, length, take, ap}
use Rattle.std.proofs.lemmas.Bool.Decides.{Decides-eqb}
use Rattle.std.proofs.lemmas.Slice.Eq.{strip_prefix_is}
use Rattle.std.specs.Prelude.{bytes_eq}
use Rattle.arrivals.specs.HttpReplies.{body_of, status_of}
use Rattle.http_messages.specs.declared.reply.Content.TheVariants.{Json}
use Rattle.http_messages.specs.Texts.{head_text}
use Rattle.wire.proofs.ParseLemmas.{same_text, other_text}
use Rattle.wire.proofs.parse.is_text_of.Goals as goal

pub returns-in-Some : goal.returns-in-Some
returns-in-Some c =
    let cut = strip_prefix_is Decides-eqb c.args.bytes.now _ c.strip_prefix.result c.strip_prefix.ensures.cases in
    let here = rw c.in-Some.is at cut in
    let body : c.as_slice-size.result.now ≡ body_of c.args.reply.now = c.as_slice-size.ensures ∙ c.in_ok-body.ensures in
    let front : take c.reply_head-end.result c.reply_head-end.new.out ≡ head_text (status_of c.args.reply.now) Json (length (body_of c.args.reply.now)) =
    c.reply_head-end.ensures.head ∙ λ i. head_text (c.status_of.ensures i) Json (length (body i)) in
    same_text c.args.bytes.now _ c.in-Some.rest.now _ _ c.eq.result front here (c.eq.ensures ∙ ap (bytes_eq c.in-Some.rest.now) (c.as_slice.ensures ∙ c.in_ok-body.ensures))

pub returns : goal.returns
returns c =
    let cut = strip_prefix_is Decides-eqb c.args.bytes.now _ c.strip_prefix.result c.strip_prefix.ensures.cases in
    let here = rw c.in-None.is at cut in
    let body : c.as_slice-size.result.now ≡ body_of c.args.reply.now = c.as_slice-size.ensures ∙ c.in_ok-body.ensures in
    let front : take c.reply_head-end.result c.reply_head-end.new.out ≡ head_text (status_of c.args.reply.now) Json (length (body_of c.args.reply.now)) =
    c.reply_head-end.ensures.head ∙ λ i. head_text (c.status_of.ensures i) Json (length (body i)) in
    (λ no. cc, λ whole. absurd (other_text c.args.bytes.now _ _ _ front here whole))
