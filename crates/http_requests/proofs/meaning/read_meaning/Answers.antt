use Rattle.http_messages.specs.Messages.{as_parts}
use Rattle.http_messages.specs.Messages as heard
use Rattle.http_requests.proofs.MeantLemmas.{meant_as, message_means, wanted_means}
use Rattle.http_requests.proofs.meaning.read_meaning.Goals as goal

pub returns-in-Message : goal.returns-in-Message
returns-in-Message g c =
    let m = c.in-Message.ensures in
    (m.0, m.1, message_means m.0 (as_parts c.in-Message.message) c.meaning_of.result m.2 c.meaning_of.ensures)

pub returns-in-Broken : goal.returns-in-Broken
returns-in-Broken g c = let m = c.in-Broken.ensures in (m.0, m.1, meant_as m.0 heard.Broken m.2.0)

pub returns-in-Refused : goal.returns-in-Refused
returns-in-Refused g c = let m = c.in-Refused.ensures in (m.0, m.1, meant_as m.0 (heard.Refused c.in-Refused.why) m.2)

pub returns-in-Memory : goal.returns-in-Memory
returns-in-Memory g c = let m = c.in-Memory.ensures in (m.0, m.1, wanted_means m.0 m.2.0 m.2.1)
