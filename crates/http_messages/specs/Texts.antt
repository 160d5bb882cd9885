-- The text of responses: HTTP/1.1 (RFC 9112), with the lines of this project's profile. They have
-- no `Date` line, because the code that writes them has no clock.
use Rattle.std.specs.Prelude.{ℕ, ◌==◌, List, [], ◌++◌, length, codes, decimal, if◌then◌else◌, unwrap_or}
use Rattle.http.specs.StatusCode.{reason_phrase}
use Rattle.http_messages.specs.declared.reply.Content.{Content}
use Rattle.http_messages.specs.declared.reply.Content.TheVariants.{Json, Report, OnlyMethod}
use Rattle.http_messages.specs.declared.reply.Method.TheVariants.{Get, Post}

-- the status code with its reason phrase (RFC 9110 section 15, except that the phrase of 413 is
-- from RFC 7231; RFC 6585 section 5 for 431); every other status is sent as 503
abbrev pub status_text : ℕ → List ℕ
status_text s =
    if s == 200 then codes "200 OK"
    else if s == 400 then codes "400 Bad Request"
    else if s == 404 then codes "404 Not Found"
    else if s == 405 then codes "405 Method Not Allowed"
    else if s == 409 then codes "409 Conflict"
    else if s == 413 then codes "413 Payload Too Large"
    else if s == 431 then codes "431 Request Header Fields Too Large"
    else codes "503 Service Unavailable"

-- the reason phrase of a status in the crate `http`, or an empty text if the crate has no phrase
unfoldable pub phrase : ℕ → List ℕ
phrase s = unwrap_or (reason_phrase s) []

abbrev pub type_text : Content → List ℕ
type_text Json = codes "application/json"
type_text Report = codes "text/plain"
type_text (OnlyMethod method) = codes "application/json"

-- the line `Allow` with the method that the path allows, if the message had a different method
abbrev pub allow_text : Content → List ℕ
allow_text Json = []
allow_text Report = []
allow_text (OnlyMethod Get) = codes "Allow: GET\r\n"
allow_text (OnlyMethod Post) = codes "Allow: POST\r\n"

-- the head of a response
unfoldable pub head_text : ℕ → Content → ℕ → List ℕ
head_text status kind size =
    codes "HTTP/1.1 " ++ status_text status ++ codes "\r\nContent-Type: " ++ type_text kind ++ codes "\r\nContent-Length: " ++ decimal size
    ++ codes "\r\nConnection: close\r\n" ++ allow_text kind ++ codes "\r\n"

-- a complete response
abbrev pub reply_text : ℕ → Content → List ℕ → List ℕ
reply_text status kind body = head_text status kind (length body) ++ body
