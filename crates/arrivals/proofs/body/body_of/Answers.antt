use Rattle.std.proofs.Common.{◌≡◌, ◌∙◌, ℕ, Vec, Global, false, ap}
use Rattle.serde_json.specs.View.{view}
use Rattle.serde_json.specs.Written.{compact_text, has_float}
use Rattle.arrivals.specs.HttpReplies.{body_of}
use Rattle.arrivals.proofs.Texts.{no_float}
use Rattle.arrivals.proofs.body.body_of.Goals as goal

pub returns : goal.returns
unfolding body_of
returns c =
    let value = c.in_ok-value_of.ensures in
    let no_floats : has_float (view c.in_ok-value_of.field-0) ≡ false = ap has_float value ∙ no_float c.args.reply.now in
    let text = c.in_ok-text.ensures.text no_floats ∙ ap compact_text value in
    c.from_vec.ensures ∙ ap (λ (v : Vec ℕ Global). v.items) c.into_bytes.ensures.value ∙ text
