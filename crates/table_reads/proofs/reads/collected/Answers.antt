use Rattle.std.proofs.Common.{All, MatchOption, subst}
use Rattle.std.specs.List.{AllZip}
use Rattle.table_reads.proofs.Looking.{looks_plain}
use Rattle.table_reads.proofs.reads.collected.Goals as goal

pub returns-clause-value : goal.returns-clause-value
returns-clause-value g c clean =
    let t = g.C.Conversion in
    let shown = c.in_ok-shown.ensures.value clean in
    let rows = c.in_ok-shown.shown.rows.items in
    let all = subst (λ found. MatchOption found (All t.is_row rows → ⊥) (λ all. AllZip t.gives rows all.items)) c.in-Some.is c.in_ok-rows.ensures in
    (shown.0, shown.1, λ tree columns asks. record { rows = rows; shown = shown.2 tree columns asks; values = all })

pub returns-in_default-clause-value : goal.returns-in_default-clause-value
returns-in_default-clause-value g c clean =
    let t = g.C.Conversion in
    let shown = c.in_ok-shown.ensures.value clean in
    let rows = c.in_ok-shown.shown.rows.items in
    let none = subst (λ found. MatchOption found (All t.is_row rows → ⊥) (λ all. AllZip t.gives rows all.items)) c.in_default.is c.in_ok-rows.ensures in
    (shown.0, shown.1, λ tree columns asks. record { rows = rows; apart = c.in_ok-shown.shown.apart; shown = shown.2 tree columns asks; lack = none })

pub returns-in_err-rows-clause-looks : goal.returns-in_err-rows-clause-looks
returns-in_err-rows-clause-looks g c =
    let r = c.from_residual-in_err-rows in
    looks_plain c.shown_rows.ensures.looks r.result c.in_err-rows.field-0.0 r.ensures.1 c.in_err-rows.ensures
