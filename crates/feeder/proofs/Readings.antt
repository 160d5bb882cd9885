-- A reading that finds each reply from its text: it parses the JSON body.
use Rattle.std.proofs.Common.{Option, ap, ◌∙◌}
use Rattle.std.specs.Prelude.{option_and_then}
use Rattle.serde_json.specs.Read.{read}
use Rattle.job_facts.specs.declared.reply.Reply.{Reply}
use Rattle.arrivals.specs.HttpReplies.{HttpReply}
use Rattle.wire.specs.ReplyReading.{reply_in}
use Rattle.wire.proofs.ParseLemmas.{body_is_read, reply_is_found}
use Rattle.feeder.specs.Reading.{IsReadable}

abbrev reply_read : HttpReply → Option Reply
reply_read t = option_and_then reply_in (read t.body)

pub readable : IsReadable
readable = (reply_read, λ r is. ap (option_and_then reply_in) (body_is_read r is) ∙ reply_is_found r is)
