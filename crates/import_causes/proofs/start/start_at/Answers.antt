use Rattle.std.proofs.Common.{sym, ap, ◌∙◌}
use Rattle.import_causes.specs.Starts.{label_of}
use Rattle.import_causes.proofs.StartLemmas.{start-none, start-some}
use Rattle.import_causes.proofs.start.start_at.Goals as goal

pub returns-then-is_empty : goal.returns-then-is_empty
returns-then-is_empty c fields is = start-none c.args.raw.now c.args.rest.now fields (sym c.is_empty.ensures ∙ c.if-is_empty.true)

pub returns : goal.returns
returns c fields is =
    start-some c.args.raw.now c.args.rest.now fields c.line_at.result c.label_of.result (sym c.is_empty.ensures ∙ c.if-is_empty.false)
    c.line_at.ensures (c.label_of.ensures ∙ ap label_of (c.field.ensures fields is))
