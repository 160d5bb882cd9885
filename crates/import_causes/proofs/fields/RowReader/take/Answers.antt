use Rattle.std.proofs.Common.{ℕ, List, [], ◌∷◌, ◌++◌, subst, sym, ap, ◌∙◌}
use Rattle.csv.specs.Machine.{next_record}
use Rattle.csv.specs.Reading.{default_config}
use Rattle.batch_import.specs.Grammar.{state_of}
use Rattle.batch_import.specs.declared.grammar.Place.{Place}
use Rattle.import_causes.specs.RowTexts.{IsOf, fields_read}
use Rattle.import_causes.proofs.TextLemmas.{byte-field, byte-keep, byte-row, byte-skip}
use Rattle.import_causes.proofs.fields.RowReader.take.Goals as goal

pub returns-in-Skip-clause-read : goal.returns-in-Skip-clause-read
returns-in-Skip-clause-read c text rest reading =
    let r = c.args.self.now in
    record {
      fields = reading.fields;
      row = reading.row;
      same = reading.same ∙ byte-skip (state_of r.place) (state_of c.step-next.result.0) reading.fields r.field.items c.args.byte rest c.step-next.ensures.place
          (sym c.in-Skip.is ∙ c.step-next.ensures.effect);
    }

pub returns-in_ok-push-in-Keep-clause-read : goal.returns-in_ok-push-in-Keep-clause-read
returns-in_ok-push-in-Keep-clause-read c text rest reading =
    let r = c.args.self.now in
    let now = state_of c.step-next.result.0 in
    record {
      fields = reading.fields;
      row = reading.row;
      same = reading.same ∙ byte-keep (state_of r.place) now reading.fields r.field.items c.args.byte rest c.step-next.ensures.place (sym c.in-Keep.is ∙ c.step-next.ensures.effect)
          ∙ ap (λ (xs : List ℕ). next_record default_config now reading.fields xs rest) (sym c.in_ok-push-in-Keep.ensures.items);
    }

pub returns-in_ok-end_field-in-EndField-clause-read : goal.returns-in_ok-end_field-in-EndField-clause-read
returns-in_ok-end_field-in-EndField-clause-read c text rest reading =
    let r = c.args.self.now in
    let now = state_of c.step-next.result.0 in
    let fields = reading.fields ++ r.field.items ∷ [] in
    record {
      fields = fields;
      row = c.in_ok-end_field-in-EndField.ensures.of reading.fields reading.row;
      same = reading.same ∙ byte-field (state_of r.place) now reading.fields r.field.items c.args.byte rest c.step-next.ensures.place (sym c.in-EndField.is ∙ c.step-next.ensures.effect)
          ∙ ap (λ (xs : List ℕ). next_record default_config now fields xs rest) (sym c.in_ok-end_field-in-EndField.ensures.field)
          ∙ ap (λ (p : Place). next_record default_config (state_of p) fields c.end_field.new.self.field.items rest) (sym c.in_ok-end_field-in-EndField.ensures.place);
    }

pub returns-in_ok-end_field-in-EndRow-clause-read : goal.returns-in_ok-end_field-in-EndRow-clause-read
returns-in_ok-end_field-in-EndRow-clause-read c text rest reading =
    let r = c.args.self.now in
    subst (IsOf c.end_field-in-EndRow.new.self.row)
    (sym (ap fields_read reading.same ∙ byte-row (state_of r.place) (state_of c.step-next.result.0) reading.fields r.field.items c.args.byte rest c.step-next.ensures.place (sym c.in-EndRow.is ∙ c.step-next.ensures.effect)))
    (c.in_ok-end_field-in-EndRow.ensures.of reading.fields reading.row)
