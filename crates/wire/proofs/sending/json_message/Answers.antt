use Rattle.std.proofs.Common.{◌≡◌, ◌∙◌, ◌≤◌, ℕ, List, ap, false, subst, sym, length}
use Rattle.std.specs.Prelude.{IsUtf8, string_bytes}
use Rattle.std.proofs.lemmas.Str.{IsUtf8-string_bytes}
use Rattle.serde_json.specs.View.{view}
use Rattle.serde_json.specs.Written.{compact_text, has_float}
use Rattle.text_io.specs.Inputs.{most_input}
use Rattle.wire.specs.Sending.{body_of}
use Rattle.wire.proofs.Arriving.{json_message}
use Rattle.wire.proofs.SendLemmas.{no_float, text_is_body}
use Rattle.wire.proofs.SentRequests.{body_is_short}
use Rattle.wire.proofs.sending.json_message.Goals as goal

pub returns : goal.returns
returns c = λ r value names sendable other.
    let sent = c.as_bytes.result.now in
    let no_floats : has_float (view c.args.value.now) ≡ false = ap has_float value ∙ no_float r in
    let body : string_bytes c.in_ok-body.body ≡ body_of r = c.in_ok-body.ensures.text no_floats ∙ ap compact_text value ∙ text_is_body r other in
    let is : sent ≡ body_of r = c.as_bytes.ensures.value ∙ body in
    let valid : IsUtf8 sent = subst IsUtf8 (sym c.as_bytes.ensures.value) (IsUtf8-string_bytes c.in_ok-body.body) in
    let fits : length sent ≤ most_input = subst (λ (x : List ℕ). length x ≤ most_input) (sym is) (body_is_short r names sendable other) in
    json_message c.job_text.result c.args.client.now c.args.number r sent names sendable other valid is c.job_text.ensures.text (c.job_text.ensures.means fits)
