use Rattle.std.proofs.Common.{Ok, refl, inl, subst, sym}
use Rattle.arrivals.specs.HttpReplies.{HttpReply}
use Rattle.server.specs.Replies.{IsWritten, http_reply_text}
use Rattle.server.proofs.one.serve_arrival.Goals as goal

pub returns-in-Ok : goal.returns-in-Ok
returns-in-Ok g c =
    let t = c.send_kept.ensures in
    let handled = c.in-Ok.ensures.handled in (
      t.0,
      t.1,
      record {
        does = (Ok c.in-Ok.kept, handled, refl);
        answered = λ h d held. inl (refl, subst (λ (http_reply : HttpReply). IsWritten c.send_kept.result (http_reply_text http_reply) t.0) (sym (handled.reply_is h d held)) t.2);
        fixed = λ none d. absurd none;
        next = λ d held decided first. c.in-Ok.ensures.next d held;
      },
    )
