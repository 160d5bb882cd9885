use Rattle.std.proofs.Common.{◌+◌, ◌≡◌, get_or, length, set, refl, ◌∙◌, arith}
use Rattle.hex.specs.Hex.{encode_with}
use Rattle.plan_print.proofs.PrintLemmas.{put_more}
use Rattle.std.proofs.lemmas.List.{length-set}
use Rattle.plan_print.proofs.print.put_line.Goals as goal

pub loop-byte-init : goal.loop-byte-init
unfolding encode_with
loop-byte-init c = record { twice = refl; size = c.told-text; digits = refl }

pub loop-byte-preserved : goal.loop-byte-preserved
loop-byte-preserved c =
    let text = c.loop-byte.text in
    let at = c.loop-byte.at in
    let first = set text at c.upper_digit.result in
    let second = set first (at + 1) c.upper_digit-in-loop-byte.result in
    let inside = c.loop-byte-test.true in
    let same : length first ≡ length text = length-set text at c.upper_digit.result in
    let size = c.loop-byte.invariant.size in
    record {
      twice = omega (arith, c.loop-byte.invariant.twice);
      size = length-set first (at + 1) c.upper_digit-in-loop-byte.result ∙ same ∙ size;
      digits = put_more c.args.bytes.now text first second c.loop-byte.byte-index at (get_or c.args.bytes.now c.loop-byte.byte-index 0) c.upper_digit.result c.upper_digit-in-loop-byte.result
          inside refl (omega (arith, c.loop-byte.invariant.twice, c.requires)) (omega (arith, c.loop-byte.invariant.twice, c.requires, same)) c.loop-byte.invariant.digits c.upper_digit.ensures c.upper_digit-in-loop-byte.ensures refl refl;
    }
