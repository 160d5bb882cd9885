use Rattle.std.proofs.Common.{◌≡◌, ◌∙◌, ◌+◌, ℕ, arith, length, sym}
use Rattle.std.specs.List.{range_with_len}
use Rattle.std.proofs.lemmas.List.FromFn.{get_or-range_with_len, length-range_with_len}
use Rattle.audit_order.proofs.SameLists.{all_same, here_same, same_here, same_more}
use Rattle.audit_order.proofs.Tested.{granted, refused}
use Rattle.audit_rows.proofs.ids.are_counted.Goals as goal

pub returns-then-id-place : goal.returns-then-id-place
returns-then-id-place g c =
    let rows = c.args.rows.now in
    let k = c.loop-place.place in
    let n : ℕ = length rows in
    let turned : 1 + k ≡ k + 1 = omega arith in
    refused (λ same. c.if-id-place.true (c.id.ensures ∙ here_same g.T.Counted.id rows (range_with_len 1 n) k c.index-rows-place.result (1 + k) (omega arith) (omega (arith, length-range_with_len 1 n)) c.index-rows-place.is
    (sym (get_or-range_with_len 1 n k (1 + k) (omega arith))) same ∙ turned))

pub loop-place-preserved : goal.loop-place-preserved
loop-place-preserved g c =
    let rows = c.args.rows.now in
    let k = c.loop-place.place in
    let n : ℕ = length rows in
    let turned : 1 + k ≡ k + 1 = omega arith in
    same_more g.T.Counted.id rows (range_with_len 1 n) k c.loop-place.invariant
    (same_here g.T.Counted.id rows (range_with_len 1 n) k c.index-rows-place.result (1 + k) (omega arith) (omega (arith, length-range_with_len 1 n)) c.index-rows-place.is
    (sym (get_or-range_with_len 1 n k (1 + k) (omega arith))) (sym c.id.ensures ∙ c.if-id-place.false ∙ sym turned))

pub returns : goal.returns
returns g c =
    let rows = c.args.rows.now in
    granted (all_same g.T.Counted.id rows (range_with_len 1 (length rows)) (sym (length-range_with_len 1 (length rows))) (λ k within. c.loop-place.invariant k (omega arith)))
