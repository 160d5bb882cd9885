use Rattle.std.proofs.Common.{◌≡◌, All, None, map, subst, sym, ◌∙◌, ap}
use Rattle.std.proofs.lemmas.Result.{err_from_is_err_and}
use Rattle.std.specs.Io.KnownBytes.{Appends}
use Rattle.std.specs.List.{flat_map}
use Rattle.store_data.specs.RecordFaults.{record_fault}
use Rattle.store_data.specs.Sequence.{AreRows}
use Rattle.text_io.specs.Written.{AppendsBeginning}
use Rattle.plan_print.specs.Printed.{planned_of, printed, text_of}
use Rattle.plan_print.proofs.PrintLemmas.{printed_of, rows_of_records, sound_records}
use Rattle.plan_print.proofs.plan.plan_bytes.Goals as goal

pub plans-requires-clause-records : goal.plans-requires-clause-records
plans-requires-clause-records g c =
    let (rows, of_batch, fits, sound, groups) = c.in_ok-records.ensures in
    subst (All (λ v. AreRows v.items)) (sym c.as_slice.ensures.value) (rows_of_records (λ v. v.items) c.in_ok-records.records.items rows fits groups)

pub plans-requires-clause-sound : goal.plans-requires-clause-sound
plans-requires-clause-sound g c =
    let (rows, of_batch, fits, sound, groups) = c.in_ok-records.ensures in
    let m = c.args.product.now.max in
    subst (All (λ v. record_fault m v.items ≡ None)) (sym c.as_slice.ensures.value)
    (sound_records m (λ v. v.items) c.in_ok-records.records.items rows sound groups)

pub returns-in_err-print : goal.returns-in_err-print
returns-in_err-print g c =
    let (rows, of_batch, fits, sound, groups) = c.in_ok-records.ensures in
    let p = err_from_is_err_and c.from_residual-in_err-print.result c.from_residual-in_err-print.ensures.1 in
    let text : flat_map text_of c.as_slice-2.result.now ≡ printed c.args.product.now rows =
    printed_of c.args.product.now (λ v. v.items) c.in_ok-records.records.items rows c.as_slice-2.result.now groups
    (c.as_slice-2.ensures.value ∙ c.in_ok-plans.ensures ∙ ap (map (λ v. planned_of c.args.product.now v.items)) c.as_slice.ensures.value) in
    rw (p.1, p.2) (
      rows,
      c.requires.few,
      of_batch,
      subst (AppendsBeginning (g.W.Write.contents c.args.writer.now) (g.W.Write.contents c.print.new.writer)) text c.in_err-print.ensures,
    )

pub returns : goal.returns
returns g c =
    let (rows, of_batch, fits, sound, groups) = c.in_ok-records.ensures in
    let text : flat_map text_of c.as_slice-2.result.now ≡ printed c.args.product.now rows =
    printed_of c.args.product.now (λ v. v.items) c.in_ok-records.records.items rows c.as_slice-2.result.now groups
    (c.as_slice-2.ensures.value ∙ c.in_ok-plans.ensures ∙ ap (map (λ v. planned_of c.args.product.now v.items)) c.as_slice.ensures.value) in (
      rows,
      c.requires.few,
      of_batch,
      subst (Appends (g.W.Write.contents c.args.writer.now) (g.W.Write.contents c.print.new.writer)) text c.in_ok-print.ensures,
    )
