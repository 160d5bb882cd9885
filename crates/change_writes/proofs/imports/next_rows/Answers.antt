use Rattle.std.proofs.Common.{◌+◌, arith, refl}
use Rattle.change_writes.proofs.FileRows.{names_are_few, none_more, one_more, taken_few}
use Rattle.change_writes.proofs.imports.next_rows.Goals as goal

pub loop-stream-init : goal.loop-stream-init
loop-stream-init c = record {
  some = omega (arith, c.new.ensures.len);
  rows = λ check raw taken is. rw (c.new.ensures.items, c.new-2.ensures.items) (none_more check raw taken c.args.batch c.args.names.now.keys c.args.line c.args.stream.now is);
}

pub overflow_add-line : goal.overflow_add-line
overflow_add-line c =
    let given = c.requires.taken in
    let few = taken_few given.0 given.1.0 given.1.1.0 c.args.names.now.keys c.args.line c.args.stream.now given.1.1.1 in
    omega (arith, few, c.loop-stream.invariant.some, c.len-in-loop-stream.ensures)

pub place_of-requires-clause-few : goal.place_of-requires-clause-few
place_of-requires-clause-few c =
    let given = c.requires.taken in
    let so_far = c.loop-stream.invariant.rows given.0 given.1.0 given.1.1.0 given.1.1.1 in
    names_are_few given.0 given.1.0 given.1.1.0 c.args.batch c.args.names.now.keys c.args.line c.loop-stream.next.rows.items c.loop-stream.next.records.items c.loop-stream.names.keys c.loop-stream.stream so_far
    c.in-Some.row c.next_row.new.stream (rw c.in-Some.is at c.in_ok-row.ensures)

pub loop-stream-preserved : goal.loop-stream-preserved
loop-stream-preserved c =
    let l = c.loop-stream in
    let at = c.args.line + c.len-in-loop-stream.result in
    record {
      some = omega (arith, c.loop-stream-test.true, c.len.ensures, c.in_ok-push.ensures.len);
      rows = λ check raw taken is.
          let so_far = l.invariant.rows check raw taken is in
          rw (c.in_ok-push.ensures.items, c.in_ok-place.ensures.names)
          (one_more check raw taken c.args.batch c.args.names.now.keys c.args.line l.next.rows.items l.next.records.items l.names.keys l.stream so_far
          c.in-Some.row c.next_row.new.stream (rw c.in-Some.is at c.in_ok-row.ensures) _ at c.in_ok-place.place refl (omega (arith, c.len-in-loop-stream.ensures)) c.in_ok-place.ensures.place
          c.place_of.new.records.items c.in_ok-place.ensures.records);
    }
