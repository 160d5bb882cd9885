-- Lemmas about the text of a request's JSON value.
use Rattle.std.proofs.Common.{◌≡◌, ◌<◌, ◌/◌, ◌%◌, ℕ, zero, suc, false, List, [], ◌∷◌, refl, sym, ap, ◌∙◌, arith}
use Rattle.serde_json.specs.Written.{compact_text, has_float}
use Rattle.hex.specs.Hex.{IsBytes}
use Rattle.job_facts.specs.declared.request.Call.{Call}
use Rattle.job_facts.specs.declared.request.Call.TheVariants.{Job}
use Rattle.job_facts.specs.declared.request.Request.TheVariants as request
use Rattle.arrivals.specs.Values.{IsPlain}
use Rattle.arrivals.proofs.Escapes.{hex_plain}
use Rattle.http_requests.specs.Asks.{import_tail}
use Rattle.http_requests.specs.Posts.{post_with}
use Rattle.wire.specs.Sending.{IsNoImport, body_of, sending_of, tail_of, value_of, word_text}

pub no_float : (r : Call) → has_float (value_of r) ≡ false
no_float (Job (request.Product p)) = refl
no_float _ = refl

pub word_is_plain : (sw : ℕ) → sw < 65536 → IsPlain (word_text sw)
word_is_plain sw h = hex_plain (sw / 256 ∷ sw % 256 ∷ []) (are_bytes sw h)
  where
    are_bytes : (n : ℕ) → n < 65536 → IsBytes (n / 256 ∷ n % 256 ∷ [])
    are_bytes n small zero = omega arith
    are_bytes n small (suc zero) = omega arith
    are_bytes n small (suc (suc k)) = omega arith

pub text_is_body : (r : Call) → IsNoImport r → compact_text (value_of r) ≡ body_of r
unfolding body_of
text_is_body (Job (request.Import b p raw)) other = absurd (other b p raw refl)
text_is_body _ other = refl

pub no_tail : (r : Call) → IsNoImport r → tail_of r ≡ []
no_tail (Job (request.Import b p raw)) other = absurd (other b p raw refl)
no_tail _ other = refl

pub json_is_sent : (client : List ℕ) (number : ℕ) (r : Call) (body : List ℕ) → body ≡ body_of r → IsNoImport r
    → post_with client number [] body ≡ sending_of client number r
json_is_sent client number r body is other =
    ap (λ (t : List ℕ). post_with client number t body) (sym (no_tail r other)) ∙ ap (post_with client number (tail_of r)) is

pub file_is_sent : (client : List ℕ) (number : ℕ) (r : Call) (b p raw body : List ℕ) → r ≡ Job (request.Import b p raw) → body ≡ raw
    → post_with client number (import_tail b p) body ≡ sending_of client number r
unfolding body_of
file_is_sent client number r b p raw body is same = ap (post_with client number (import_tail b p)) same ∙ ap (sending_of client number) (sym is)
