use Rattle.std.proofs.Common.{◌∙◌}
use Rattle.std.proofs.lemmas.List.{take_rest}
use Rattle.import_causes.proofs.StartLemmas.{from-row-is}
use Rattle.import_causes.proofs.start.from_row.Goals as goal

pub returns-clause-value : goal.returns-clause-value
returns-clause-value c =
    take_rest c.after_rows-rest.result.now c.line_ends_len.result
    ∙ from-row-is c.args.raw.now c.without_mark.result.now c.after_rows-rest.result.now c.args.row c.saturating_sub.result c.line_ends_len.result
    c.without_mark.ensures.value c.saturating_sub.ensures c.after_rows-rest.ensures.value c.line_ends_len.ensures.value
