use Rattle.std.proofs.Common.{◌≡◌, ℕ, List, ◌∷◌, Option, Some, None, Result, Ok, Err, if◌then◌else◌, ok_or, inl, inr, refl, subst}
use Rattle.std.proofs.lemmas.Bool.{cases_Bool}
use Rattle.store_data.specs.Name.{is_name}
use Rattle.http_messages.specs.declared.fixed.FixedReply.{FixedReply}
use Rattle.http_messages.specs.declared.fixed.FixedReply.TheVariants.{Malformed}
use Rattle.http_messages.specs.declared.flaw.Flaw.{Flaw}
use Rattle.http_requests.specs.Asks.{arrival_of, name_in, or_malformed}
use Rattle.http_requests.specs.Flaws.{body_flaw, path_flaw}
use Rattle.http_requests.specs.Requests.{call_in}
use Rattle.http_requests.proofs.ask.job.Goals as goal

-- a job whose path is valid, and whose body isn't a call
refused : (text client body seen : List ℕ) (o found : Option ℕ) (n : ℕ) (who why : FixedReply) (flaw : Flaw) → ◌≡◌ {A = Result (List ℕ) FixedReply} (Ok client) (if is_name text then Ok text else Err who)
    → ◌≡◌ {A = Result ℕ FixedReply} (Ok n) (ok_or found why) → found ≡ o → seen ≡ body → call_in seen ≡ None → flaw ≡ body_flaw seen
    → or_malformed (path_flaw (name_in text) o (body_flaw body)) (arrival_of (name_in text) o (0 ∷ body) (call_in body)) ≡ Err (Malformed flaw)
refused text client body seen None found n who why flaw name number same read none is = let bad = rw same at number in absurd (cc)
refused text client body seen (Some m) found n who why flaw name number same read none is =
    subst (λ b. or_malformed (path_flaw (name_in text) (Some m) (body_flaw b)) (arrival_of (name_in text) (Some m) (0 ∷ b) (call_in b)) ≡ Err (Malformed flaw)) read
    (elim (cases_Bool (is_name text)) [
      | inl hit ↦ rw (hit, none, is) refl
      | inr miss ↦ let bad = rw miss at name in absurd (cc)
    ])

pub returns-in-Err-clause-asked : goal.returns-in-Err-clause-asked
returns-in-Err-clause-asked c =
    let failed = rw c.in-Err.is at c.in_ok-request.ensures.value in
    refused c.args.client.now c.in_ok-client.client c.args.body c.as_slice.result.now _ c.number_in.result c.in_ok-number.number _ _ c.in-Err.flaw c.in_ok-client.ensures c.in_ok-number.ensures.value
    c.number_in.ensures.value c.as_slice.ensures failed.0 failed.1
