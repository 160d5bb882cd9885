use Rattle.std.proofs.Common.{refl, ◌∙◌}
use Rattle.http_messages.specs.Texts.{head_text}
use Rattle.http_messages.proofs.Texts.{then}
use Rattle.http_messages.proofs.reply.reply_head.Goals as goal

pub returns-clause-head : goal.returns-clause-head
unfolding head_text
returns-clause-head c =
    let status = then c.put-at.ensures.text c.put_status-at.ensures.text c.known.ensures.text in
    let kind = then (then status c.put-at-2.ensures.text refl) c.put-at-3.ensures.text (c.as_bytes.ensures.value ∙ c.type_text.ensures.text) in
    let size = then (then kind c.put-at-4.ensures.text refl) c.put-at-5.ensures.text (c.as_bytes-2.ensures.value ∙ c.format.ensures.text) in
    let allow = then (then size c.put-at-6.ensures.text refl) c.put-at-7.ensures.text (c.as_bytes-3.ensures.value ∙ c.allow_text.ensures.text) in
    then allow c.put.ensures.text refl
