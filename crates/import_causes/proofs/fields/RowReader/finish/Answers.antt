use Rattle.std.proofs.Common.{subst, sym, ap, ◌∙◌}
use Rattle.batch_import.specs.Grammar.{state_of}
use Rattle.import_causes.specs.RowTexts.{IsOf, fields_read}
use Rattle.import_causes.proofs.TextLemmas.{end-none, end-row}
use Rattle.import_causes.proofs.fields.RowReader.finish.Goals as goal

pub returns-then-not-is_in_row : goal.returns-then-not-is_in_row
returns-then-not-is_in_row c text reading =
    subst (IsOf c.new.result)
    (sym (ap fields_read reading.same ∙ end-none (state_of c.args.self.place) reading.fields c.args.self.field.items (sym c.is_in_row.ensures ∙ c.if-not-is_in_row.true)))
    c.new.ensures.of

pub returns : goal.returns
returns c text reading =
    subst (IsOf c.add.new.self)
    (sym (ap fields_read reading.same ∙ end-row (state_of c.args.self.place) reading.fields c.args.self.field.items (sym c.is_in_row.ensures ∙ c.if-not-is_in_row.false)))
    (c.in_ok-add.ensures.of reading.fields reading.row)
