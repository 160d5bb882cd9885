use Rattle.std.proofs.Common.{◌≡◌, ℕ, List, Option, Some, None, true, refl, ap, ◌∙◌}
use Rattle.std.specs.Prelude.{is_some}
use Rattle.batch_import.specs.Fields.{field}
use Rattle.batch_import.specs.declared.fault.RowFault.{RowFault}
use Rattle.import_causes.specs.Causes.{Numbered, blame_of}
use Rattle.import_causes.specs.Explanations.{earlier_row, explained, later_row}
use Rattle.import_causes.specs.Pairs.{two_rows}
use Rattle.import_causes.specs.Starts.{row_fields, start_of}
use Rattle.import_causes.specs.declared.blame.Blame.{Blame}
use Rattle.import_causes.specs.declared.explanation.Explanation.{Explanation}
use Rattle.import_causes.specs.declared.start.RowStart.{RowStart}
use Rattle.import_causes.proofs.NamedLemmas.{batch-pair}
use Rattle.import_causes.proofs.StartLemmas.{row-read}
use Rattle.import_causes.proofs.explanation.explain_fault.Goals as goal

parts : (raw : List ℕ) (fault : RowFault) (row : ℕ) (start : Option RowStart) (other : Option ℕ) (blame : Blame) (fields : List (List ℕ)) (two wanted : Option (Numbered × Numbered))
    → start ≡ start_of row raw → row ≡ later_row fault.row two → other ≡ earlier_row two → blame ≡ blame_of fault.kind fields two → two ≡ wanted
    → ◌≡◌ {A = Explanation} (record { kind = fault.kind; row = row; start = start; other = other; blame = blame }) (explained raw fault fields wanted)
parts raw fault row start other blame fields two wanted of_start of_row of_other of_blame of_two = rw (of_start, of_row, of_other, of_blame, of_two) refl

pub returns-clause-value : goal.returns-clause-value
returns-clause-value c =
    let raw = c.args.raw.now in
    let n = c.args.fault.row in
    let fields = row_fields n raw in
    let is = row-read raw n c.from_row-rest.result.now c.in_ok-fields.fields c.from_row-rest.ensures.value c.in_ok-fields.ensures in
    parts raw c.args.fault c.numbers_of-row.result.0 c.in_ok-start.start c.numbers_of-row.result.1 c.in_ok-blame.blame fields c.in_ok-two.two (two_rows raw c.args.product.now c.args.fault.kind (field fields 0))
    c.in_ok-start.ensures
    c.numbers_of-row.ensures.row
    c.numbers_of-row.ensures.other
    (c.in_ok-blame.ensures fields is)
    (c.in_ok-two.ensures ∙ ap (two_rows raw c.args.product.now c.args.fault.kind) (c.field.ensures fields is))

numbered : (two wanted : Option (Numbered × Numbered)) (other : Option ℕ) → other ≡ earlier_row two → two ≡ wanted → is_some wanted ≡ true → is_some other ≡ true
numbered two None other of_other of_two some = absurd (cc)
numbered two (Some pair) other of_other of_two some = rw (of_other, of_two) refl

pub returns-clause-two : goal.returns-clause-two
returns-clause-two c = λ refused some.
    let raw = c.args.raw.now in
    let n = c.args.fault.row in
    let fields = row_fields n raw in
    let is = row-read raw n c.from_row-rest.result.now c.in_ok-fields.fields c.from_row-rest.ensures.value c.in_ok-fields.ensures in
    numbered c.in_ok-two.two (two_rows raw c.args.product.now c.args.fault.kind (field fields 0)) c.numbers_of-row.result.1 c.numbers_of-row.ensures.other
    (c.in_ok-two.ensures ∙ ap (two_rows raw c.args.product.now c.args.fault.kind) (c.field.ensures fields is))
    (batch-pair c.args.product.now raw c.args.fault refused some)
