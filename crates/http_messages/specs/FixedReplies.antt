-- The fixed responses, which change nothing and are never kept (this project's profile).
use Rattle.std.specs.Prelude.{ℕ, List, codes}
use Rattle.http_messages.specs.declared.fixed.FixedReply.{FixedReply}
use Rattle.http_messages.specs.declared.fixed.FixedReply.TheVariants.{Malformed, NoRoute, OnlyMethod, TooLarge, HeadTooLarge, Storage}
use Rattle.http_messages.specs.declared.reply.Content.{Content}
use Rattle.http_messages.specs.declared.reply.Content.TheVariants as kind
use Rattle.http_messages.specs.Texts.{reply_text}

abbrev pub status_of : FixedReply → ℕ
status_of (Malformed flaw) = 400
status_of NoRoute = 404
status_of (OnlyMethod method) = 405
status_of TooLarge = 413
status_of HeadTooLarge = 431
status_of Storage = 503

abbrev pub kind_of : FixedReply → Content
kind_of (Malformed flaw) = kind.Json
kind_of NoRoute = kind.Json
kind_of (OnlyMethod method) = kind.OnlyMethod method
kind_of TooLarge = kind.Json
kind_of HeadTooLarge = kind.Json
kind_of Storage = kind.Json

abbrev pub body_of : FixedReply → List ℕ
body_of (Malformed flaw) = codes "{\"code\":400,\"refused\":\"malformed\"}"
body_of NoRoute = codes "{\"code\":404,\"refused\":\"no-route\"}"
body_of (OnlyMethod method) = codes "{\"code\":405,\"refused\":\"method\"}"
body_of TooLarge = codes "{\"code\":413,\"refused\":\"too-large\"}"
body_of HeadTooLarge = codes "{\"code\":431,\"refused\":\"head-too-large\"}"
body_of Storage = codes "{\"code\":503,\"refused\":\"storage\"}"

-- the bytes of the fixed response for `why`
abbrev pub refusal_text : FixedReply → List ℕ
refusal_text why = reply_text (status_of why) (kind_of why) (body_of why)
