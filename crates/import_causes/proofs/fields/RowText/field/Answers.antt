use Rattle.std.proofs.Common.{arith, ◌∙◌}
use Rattle.import_causes.proofs.TextLemmas.{field-kept, field-missing}
use Rattle.import_causes.proofs.fields.RowText.field.Goals as goal

pub returns-then-column-len : goal.returns-then-column-len
returns-then-column-len c fields is =
    c.as_slice.ensures.value
    ∙ field-kept c.args.self.now.fields.items fields is.kept c.args.column c.index.result.now c.requires (omega arith) c.index.ensures

pub returns-else-column-len : goal.returns-else-column-len
returns-else-column-len c fields is =
    field-missing c.args.self.now.fields.items fields is.kept c.args.column c.requires (omega arith)
