use Rattle.std.proofs.Common.{◌∙◌, ap}
use Rattle.csv.specs.declared.parser.State.TheVariants as st
use Rattle.batch_import.specs.WideRows.{wide_after}
use Rattle.batch_import.proofs.WideLemmas.{wide-is}
use Rattle.batch_import.proofs.wide.before_wide.Goals as goal

pub returns : goal.returns
returns c = wide-is c.args.raw.now c.first_wide.result (c.first_wide.ensures ∙ ap (wide_after st.StartRecord 0 0) c.without_mark-text.ensures.value)
