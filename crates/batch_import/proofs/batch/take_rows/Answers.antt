use Rattle.std.proofs.Common.{[], append-nil, arith, sym}
use Rattle.batch_import.proofs.WalkLemmas.{taken_few, walked_more}
use Rattle.batch_import.proofs.batch.take_rows.Goals as goal

pub add-requires : goal.add-requires
add-requires c =
    let walked = c.loop-row.invariant in
    let takes = rw c.in-Some.is at c.in_ok-row.ensures.taken in
    let few = taken_few c.args.stream.now c.args.keep c.args.kept.now.items c.loop-row.kept.items c.loop-row.outline c.loop-row.number
    c.loop-row.stream c.next.new.self c.in-Some.row walked takes c.requires.few in
    (walked.taken, walked.outlined, rw c.in-Some.is at c.in_ok-row.ensures.row, few, walked.numbered)

pub loop-row-preserved : goal.loop-row-preserved
loop-row-preserved c =
    let walked = c.loop-row.invariant in
    let takes = rw c.in-Some.is at c.in_ok-row.ensures.taken in
    let few = taken_few c.args.stream.now c.args.keep c.args.kept.now.items c.loop-row.kept.items c.loop-row.outline c.loop-row.number
    c.loop-row.stream c.next.new.self c.in-Some.row walked takes c.requires.few in
    walked_more c.args.stream.now c.args.keep c.args.kept.now.items c.loop-row.kept.items c.loop-row.outline c.loop-row.number
    c.loop-row.stream c.next.new.self c.in-Some.row walked takes c.put_if.new.kept.items c.add.new.self
    (c.in_ok-add.ensures walked.taken walked.outlined (rw c.in-Some.is at c.in_ok-row.ensures.row) walked.numbered few)
    c.in_ok-put_if.ensures

pub loop-row-init : goal.loop-row-init
loop-row-init c =
    let few = c.requires.few in
    record {
      taken = [];
      more = few.0;
      left_is = few.1;
      all = few.1;
      outlined = c.requires.empty;
      numbered = omega arith;
      kept_are = λ yes. sym (append-nil c.args.kept.now.items);
    }
