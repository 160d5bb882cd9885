use Rattle.std.proofs.Common.{◌≡◌, ◌∙◌, ℕ, Vec, Global, false, ap}
use Rattle.serde_json.specs.View.{view}
use Rattle.serde_json.specs.Written.{compact_text, has_float}
use Rattle.reports.specs.Accounts.{batch_text}
use Rattle.reports.proofs.accounts.batch_text.Goals as goal

pub returns : goal.returns
unfolding batch_text
returns c =
    let value = c.in_ok-batch_value.ensures in
    let no_floats : has_float (view c.in_ok-batch_value.field-0) ≡ false = ap has_float value in
    c.from_vec.ensures ∙ ap (λ (v : Vec ℕ Global). v.items) c.into_bytes.ensures.value ∙ c.in_ok-text.ensures.text no_floats ∙ ap compact_text value
