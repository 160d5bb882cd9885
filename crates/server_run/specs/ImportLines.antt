-- Defines the event line of an import that is refused because of its batch file (this project's
-- profile).
use Rattle.std.specs.Prelude.{◌≡◌, ℕ, List, [], Option, Some, None, IfSome}
use Rattle.store_data.specs.declared.row.Product.{Product}
use Rattle.import_causes.specs.Explanations.{refused_lines}
use Rattle.job_facts.specs.Contents.{Contents}
use Rattle.job_facts.specs.Facts.{Facts}
use Rattle.job_facts.specs.States.{product_named}
use Rattle.job_facts.specs.Store.{IsHonest, State}
use Rattle.job_facts.specs.declared.request.Call.{Call}
use Rattle.job_facts.specs.declared.request.Call.TheVariants as call
use Rattle.job_facts.specs.declared.request.Request.TheVariants as request
use Rattle.http_messages.specs.ReplyParts.{body_behind}
use Rattle.http_requests.specs.declared.ask.Asked.TheVariants as asked
use Rattle.http_requests.specs.declared.meaning.Meaning.{Meaning}
use Rattle.http_requests.specs.declared.meaning.Meaning.TheVariants as meaning
use Rattle.server_run.specs.Words.{RefusalWords, refusal_in}
use Rattle.server_run.specs.declared.observation.Observation.{Observation}

-- the name of the product and the batch file of an import
abbrev pub ImportedFile : Type 0
ImportedFile = List ℕ × List ℕ

abbrev pub import_in : Call → Option ImportedFile
import_in (call.Job (request.Import batch product raw)) = Some (product, raw)
import_in _ = None

abbrev pub imported : Meaning → Option ImportedFile
imported (meaning.Asks (asked.Arrival a)) = import_in a.request
imported _ = None

-- ---- the product

abbrev pub product_of : Facts → Option ImportedFile → Option Product
product_of f None = None
product_of f (Some file) = product_named f.products file.0

-- `p`, if it isn't `None`, is the product of an import with the meaning `m`
abbrev pub IsProductOf : Contents → Meaning → Option Product → Type 0
IsProductOf c m p = IfSome p (λ q. product_of c.facts (imported m) ≡ Some q)

-- the product of an import was read from the store
abbrev pub ReadsProduct : State → State → Meaning → Option Product → Type 0
ReadsProduct old new m p = IsHonest new → (c : Contents) → old.holds c → IsProductOf c m p

-- ---- the line

-- the refusal in the response to a connection
abbrev pub refusal_of : Observation → Option RefusalWords
refusal_of o = refusal_in (body_behind o.reply)

abbrev pub words_lines : Product → List ℕ → Option RefusalWords → List (List ℕ)
words_lines p raw None = []
words_lines p raw (Some words) = refused_lines raw p words.1

-- the line of an import of `file` for the product `p` that got the refusal `words`
abbrev pub file_lines : Product → Option ImportedFile → Option RefusalWords → List (List ℕ)
file_lines p None words = []
file_lines p (Some file) words = words_lines p file.1 words

abbrev pub lines_for : Option Product → Observation → List (List ℕ)
lines_for None o = []
lines_for (Some p) o = file_lines p (imported o.meaning) (refusal_of o)

-- the line with the cause for refusing an import because of its batch file
abbrev pub import_lines : Observation → List (List ℕ)
import_lines o = lines_for o.product o

-- ---- intermediate results

-- the product with the name `code` was read from the store
abbrev pub FindsProduct : State → State → List ℕ → Option Product → Type 0
FindsProduct old new code p = IsHonest new → (c : Contents) → old.holds c → IfSome p (λ q. product_named c.facts.products code ≡ Some q)
