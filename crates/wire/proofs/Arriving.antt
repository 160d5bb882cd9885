-- Proves that a call that is sent arrives unchanged.
use Rattle.std.proofs.Common.{◌≡◌, ◌∙◌, ℕ, List, [], Some, Result, Ok, Err, IfOk, sym, subst}
use Rattle.std.specs.Prelude.{IsUtf8, Option}
use Rattle.job_facts.specs.declared.request.Call.{Call}
use Rattle.job_facts.specs.declared.request.Call.TheVariants.{Job}
use Rattle.job_facts.specs.declared.request.Request.{Request}
use Rattle.job_facts.specs.declared.request.Request.TheVariants as request
use Rattle.http_requests.specs.declared.ask.Asked.TheVariants as asked
use Rattle.http_requests.specs.Asks.{ask_with, import_tail}
use Rattle.http_requests.specs.Meant.{Asks, Means}
use Rattle.http_requests.specs.Posts.{post_with, posted_with}
use Rattle.http_requests.specs.Requests.{call_in}
use Rattle.wire.specs.Sending.{AreNames, Arrives, IsMessageOf, IsNoImport, IsSendable, body_of}
use Rattle.wire.proofs.SendLemmas.{file_is_sent, json_is_sent, no_tail}
use Rattle.wire.proofs.SentRequests.{call_is_read}

pub json_arrives : (text client : List ℕ) (number : ℕ) (r : Call) (body : List ℕ) → AreNames r → IsSendable r → IsNoImport r → IsUtf8 body → body ≡ body_of r
    → Means text (posted_with client number [] body (call_in body)) → Arrives text client number r
json_arrives text client number r body names ranged other valid is means =
    let own : Means text (posted_with client number [] (body_of r) (call_in (body_of r))) =
    subst (λ (b : List ℕ). Means text (posted_with client number [] b (call_in b))) is means in
    let read : call_in (body_of r) ≡ Some r = call_is_read r names ranged other (subst IsUtf8 is valid) in
    let with_none : Means text (posted_with client number [] (body_of r) (Some r)) = subst (λ (o : Option Call). Means text (posted_with client number [] (body_of r) o)) read own in
    subst (λ (tail : List ℕ). Means text (Asks (asked.Arrival (record { client = client; number = number; ask = ask_with tail (body_of r); request = r })))) (sym (no_tail r other)) with_none

pub file_arrives : (text client : List ℕ) (number : ℕ) (r : Call) (b p raw body : List ℕ) → r ≡ Job (request.Import b p raw) → body ≡ raw
    → Means text (posted_with client number (import_tail b p) body (Some (Job (request.Import b p body)))) → Arrives text client number r
unfolding body_of
file_arrives text client number r b p raw body is same means =
    subst (λ (q : Call). Arrives text client number q) (sym is)
    (subst (λ (x : List ℕ). Means text (posted_with client number (import_tail b p) x (Some (Job (request.Import b p x))))) same means)

-- ---- messages

pub json_message : {E : Type 0} (result : Result (List ℕ) E) (client : List ℕ) (number : ℕ) (r : Call) (body : List ℕ) → AreNames r → IsSendable r → IsNoImport r → IsUtf8 body → body ≡ body_of r
    → IfOk result (λ text. text ≡ post_with client number [] body) → IfOk result (λ text. Means text (posted_with client number [] body (call_in body)))
    → IfOk result (IsMessageOf client number r)
json_message (Ok text) client number r body names ranged other valid is text_is means =
    (text_is ∙ json_is_sent client number r body is other, json_arrives text client number r body names ranged other valid is means)
json_message (Err e) client number r body names ranged other valid is text_is means = tt

pub file_message : {E : Type 0} (result : Result (List ℕ) E) (client : List ℕ) (number : ℕ) (r : Call) (b p raw body : List ℕ) → r ≡ Job (request.Import b p raw) → body ≡ raw
    → IfOk result (λ text. text ≡ post_with client number (import_tail b p) body) → IfOk result (λ text. Means text (posted_with client number (import_tail b p) body (Some (Job (request.Import b p body)))))
    → IfOk result (IsMessageOf client number r)
file_message (Ok text) client number r b p raw body is same text_is means =
    (text_is ∙ file_is_sent client number r b p raw body is same, file_arrives text client number r b p raw body is same means)
file_message (Err e) client number r b p raw body is same text_is means = tt

pub same_job : (q r : Request) → Job q ≡ Job r → q ≡ r
same_job q r is = cc
