-- Defines the responses to connections (this project's profile).
use Rattle.std.specs.Prelude.{◌≡◌, ℕ, true, false, List, [], ◌++◌, Option, Some, None}
use Rattle.job_facts.specs.declared.refusal.Refusal.{Refusal as Rule}
use Rattle.job_facts.specs.declared.refusal.Refusal.TheVariants as rule
use Rattle.job_facts.specs.declared.reply.Reply.TheVariants as reply
use Rattle.job_facts.specs.Facts.{Facts}
use Rattle.job_facts.specs.Contents.{Contents}
use Rattle.arrivals.specs.HttpReplies.{HttpReply, http_reply_of}
use Rattle.arrivals.specs.Meaning.{http_reply_on}
use Rattle.reply_store.specs.Runs.{arrived}
use Rattle.reports.specs.Accounts.{batch_account, blank_account}
use Rattle.reports.specs.Report.{report_text}
use Rattle.http_requests.specs.declared.ask.Asked.{Asked}
use Rattle.http_requests.specs.declared.ask.Asked.TheVariants as asked
use Rattle.http_requests.specs.declared.ask.Wanted.{Wanted}
use Rattle.http_requests.specs.declared.ask.Wanted.TheVariants as wanted
use Rattle.http_messages.specs.declared.fixed.FixedReply.TheVariants.{Storage}
use Rattle.http_messages.specs.declared.reply.Content.{Content}
use Rattle.http_messages.specs.declared.reply.Content.TheVariants as content
use Rattle.http_messages.specs.FixedReplies.{refusal_text}
use Rattle.http_messages.specs.Texts.{reply_text}
use Rattle.server.specs.declared.served.End.{End}
use Rattle.server.specs.declared.served.End.TheVariants as ended
use Rattle.server.specs.declared.served.Served.{Served}
use Rattle.http_requests.specs.Meant.{Meant, Broken, Refused, Asks}

-- ---- texts

abbrev pub http_reply_text : HttpReply → List ℕ
http_reply_text t = reply_text t.status content.Json t.body

-- the account or report, if its batch or product exists
abbrev pub account_of : Facts → Wanted → Option (List ℕ)
account_of f (wanted.Batch b) = batch_account f b
account_of f (wanted.Report b) = report_text f b
account_of f (wanted.Blanks p) = blank_account f p

abbrev pub account_kind : Wanted → Content
account_kind (wanted.Batch b) = content.Json
account_kind (wanted.Report b) = content.Report
account_kind (wanted.Blanks p) = content.Json

-- the refusal for a batch or product that doesn't exist
abbrev pub unknown_of : Wanted → Rule
unknown_of (wanted.Batch b) = rule.BatchUnknown
unknown_of (wanted.Report b) = rule.BatchUnknown
unknown_of (wanted.Blanks p) = rule.ProductUnknown

abbrev pub account_reply : Wanted → Option (List ℕ) → List ℕ
account_reply w (Some text) = reply_text 200 (account_kind w) text
account_reply w None = http_reply_text (http_reply_of (reply.Refused (unknown_of w)))

abbrev pub account_text : Facts → Wanted → List ℕ
account_text f w = account_reply w (account_of f w)

-- ---- written bytes

-- the whole text was written, or a prefix if the writer failed
abbrev pub IsWritten : End → List ℕ → List ℕ → Type 0
IsWritten ended.Answered text written = written ≡ text
IsWritten ended.WriteFailed text written = (rest : List ℕ) × (written ++ rest ≡ text)
IsWritten ended.Broken text written = ⊥

-- an account decides nothing, and an arrival gets the reply for these contents
abbrev pub IsAskedAnswer : Contents → Asked → Served → List ℕ → Type 0
IsAskedAnswer c (asked.Account w) served written = (served.decided ≡ false) × IsWritten served.end (account_text c.facts w) written
IsAskedAnswer c (asked.Arrival a) served written =
    (served.decided ≡ true) × IsWritten served.end (http_reply_text (http_reply_on c (arrived a))) written

-- for the contents `c`, a message with this meaning has the outcome `served` and gets the bytes
-- `written`
abbrev pub IsAnswer : Contents → Meant → Served → List ℕ → Type 0
IsAnswer c Broken served written = (served ≡ record { end = ended.Broken; decided = false }) × (written ≡ [])
IsAnswer c (Refused why) served written = (served.decided ≡ false) × IsWritten served.end (refusal_text why) written
IsAnswer c (Asks a) served written = IsAskedAnswer c a served written

-- the response says that the store is unavailable, because the store or an allocation failed
abbrev pub IsUnavailable : Served → List ℕ → Type 0
IsUnavailable served written = (served.decided ≡ false) × IsWritten served.end (refusal_text Storage) written
