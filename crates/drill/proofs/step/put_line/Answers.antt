use Rattle.std.proofs.Common.{◌∙◌, sym}
use Rattle.drill.proofs.ReplyLemmas.{line_ended, line_stays}
use Rattle.drill.proofs.step.put_line.Goals as goal

pub returns-in_ok-push-2 : goal.returns-in_ok-push-2
returns-in_ok-push-2 c =
    line_ended c.args.text.now.items c.reply_parts.result.0.now c.reply_parts.result.1.now c.extend_from_slice.new.self.items c.push.new.self.items c.extend_from_slice-2.new.self.items
    c.push-then-not-ends_with.new.self.items c.args.reply.now c.in_ok-extend_from_slice.ensures.items c.in_ok-push.ensures.items c.in_ok-extend_from_slice-2.ensures.items c.in_ok-push-2.ensures.items
    c.reply_parts.ensures.status c.reply_parts.ensures.body (sym c.ends_with.ensures.value ∙ c.if-not-ends_with.true)

pub returns-else-not-ends_with : goal.returns-else-not-ends_with
returns-else-not-ends_with c =
    line_stays c.args.text.now.items c.reply_parts.result.0.now c.reply_parts.result.1.now c.extend_from_slice.new.self.items c.push.new.self.items c.extend_from_slice-2.new.self.items
    c.args.reply.now c.in_ok-extend_from_slice.ensures.items c.in_ok-push.ensures.items c.in_ok-extend_from_slice-2.ensures.items
    c.reply_parts.ensures.status c.reply_parts.ensures.body (sym c.ends_with.ensures.value ∙ c.if-not-ends_with.false)
