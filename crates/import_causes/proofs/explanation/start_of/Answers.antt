use Rattle.std.proofs.Common.{ℕ, List, ap, ◌∙◌}
use Rattle.import_causes.specs.Starts.{row_fields, start_at}
use Rattle.import_causes.proofs.StartLemmas.{row-read}
use Rattle.import_causes.proofs.explanation.start_of.Goals as goal

pub returns : goal.returns
returns c =
    let raw = c.args.raw.now in
    let fields = row_fields c.args.row raw in
    let rest = c.from_row-rest.ensures.value in
    let is = row-read raw c.args.row c.from_row-rest.result.now c.in_ok-fields.fields rest c.in_ok-fields.ensures in
    c.start_at.ensures fields is ∙ ap (λ (xs : List ℕ). start_at raw xs fields) rest
