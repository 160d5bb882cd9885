use Rattle.std.proofs.Common.{◌≡◌, ◌≤◌, List, ℕ, length, subst, sym}
use Rattle.job_facts.specs.declared.request.Call.TheVariants.{Job}
use Rattle.job_facts.specs.declared.request.Request.{Request}
use Rattle.text_io.specs.Inputs.{most_input}
use Rattle.wire.specs.Sending.{IsSendable}
use Rattle.wire.proofs.Arriving.{file_message, same_job}
use Rattle.wire.proofs.sending.job_message.Goals as goal

pub returns-in-Import : goal.returns-in-Import
returns-in-Import c =
    let i = c.in-Import in
    let raw = c.as_slice.result.now in
    let is : Job c.args.request.now ≡ Job _ = (λ k. Job (i.is k)) in
    let fits : length raw ≤ most_input = subst (λ (x : List ℕ). length x ≤ most_input) (sym c.as_slice.ensures) (subst (λ (q : Request). IsSendable (Job q)) i.is c.requires.sendable) in
    file_message c.import_text.result c.args.client.now c.args.number (Job c.args.request.now) i.batch i.product i.raw raw is c.as_slice.ensures c.import_text.ensures.text (c.import_text.ensures.means fits)

pub returns-in_ok-value-in_default : goal.returns-in_ok-value-in_default
returns-in_ok-value-in_default c =
    c.json_message.ensures (Job c.args.request.now) c.in_ok-value-in_default.ensures.value c.in_ok-value-in_default.ensures.names c.requires.sendable
    (λ b p raw is. c.in_default.not-Import b p raw (same_job c.args.request.now _ is))
