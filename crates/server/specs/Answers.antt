-- Defines the text of a response.
use Rattle.std.specs.Prelude.{ℕ, List}
use Rattle.http_messages.specs.Texts.{reply_text}
use Rattle.server.specs.declared.account.Answer.{Answer}

abbrev pub answer_text : Answer → List ℕ
answer_text a = reply_text a.status a.kind a.body
