use Rattle.std.proofs.Common.{rules, ◌≡◌, ◌∙◌, ◌+◌, ◌-◌, ◌≤◌, length, sym, subst, arith}
use Rattle.std.specs.Io.KnownBytes.{Consumes}
use Rattle.std.proofs.KnownBytes.{Consumes-trans}
use Rattle.std.proofs.lemmas.List.{take_all}
use borrow.Rule.Slice.PartMut.{put_mid}
use Rattle.http_messages.proofs.EndLemmas.{broken, front_kept, none_at_all, none_before, none_so_far, size_kept, take_filled}
use Rattle.http_messages.proofs.reading.read_head.Goals as goal

pub returns-then-count-eq0-clause-head : goal.returns-then-count-eq0-clause-head
returns-then-count-eq0-clause-head g c =
    let brings = g.I.ByteSource.brings in
    let l = c.loop-filled in
    broken (brings c.args.incoming.now) (brings l.incoming) l.buf l.filled (omega (arith, l.invariant.size, l.invariant.within)) (omega (arith, c.loop-filled-test.true, l.invariant.size)) l.invariant.came
    (c.bring-count.ensures.end c.if-count-eq0.true) l.invariant.none

pub find_end-requires-clause-before : goal.find_end-requires-clause-before
find_end-requires-clause-before g c =
    let l = c.loop-filled in
    none_before l.filled c.bring-count.result l.buf _ (front_kept l.filled 8192 l.buf c.bring-count.new.buf l.invariant.size l.invariant.within) l.invariant.none

pub returns-in-Some-clause-head : goal.returns-in-Some-clause-head
returns-in-Some-clause-head g c =
    let brings = g.I.ByteSource.brings in
    let l = c.loop-filled in
    let came = subst (Consumes (brings c.args.incoming.now) (brings c.bring-count.new.self)) (sym (take_filled l.filled c.bring-count.result 8192 l.buf c.bring-count.new.buf l.invariant.size l.invariant.within c.bring-count.ensures.count))
    (Consumes-trans (brings c.args.incoming.now) (brings l.incoming) (brings c.bring-count.new.self) _ _ l.invariant.came c.bring-count.ensures.bytes) in
    let few : c.loop-filled.filled + c.bring-count.result ≤ 8192 = search rules in
    (search rules, few, came, sym c.find_end.ensures.first ∙ c.in-Some.is)

pub loop-filled-preserved : goal.loop-filled-preserved
loop-filled-preserved g c =
    let brings = g.I.ByteSource.brings in
    let l = c.loop-filled in
    let came = subst (Consumes (brings c.args.incoming.now) (brings c.bring-count.new.self)) (sym (take_filled l.filled c.bring-count.result 8192 l.buf c.bring-count.new.buf l.invariant.size l.invariant.within c.bring-count.ensures.count))
    (Consumes-trans (brings c.args.incoming.now) (brings l.incoming) (brings c.bring-count.new.self) _ _ l.invariant.came c.bring-count.ensures.bytes) in
    let few : c.loop-filled.filled + c.bring-count.result ≤ 8192 = search rules in
    let piece : length c.bring-count.new.buf ≡ 8192 - c.loop-filled.filled = search rules in
    let size : length (put_mid c.loop-filled.filled (8192 - c.loop-filled.filled) c.loop-filled.buf c.bring-count.new.buf) ≡ 8192 = size_kept l.filled 8192 l.buf c.bring-count.new.buf l.invariant.size l.invariant.within piece in
    record {
      size = size;
      within = few;
      cut = c.bring-count.ensures.cut ∙ l.invariant.cut;
      came = came;
      none = none_so_far _ (l.filled + c.bring-count.result) (omega (arith, size, few)) (sym c.find_end.ensures.first ∙ c.in_default.is);
    }

pub returns-clause-head : goal.returns-clause-head
returns-clause-head g c =
    let brings = g.I.ByteSource.brings in
    let l = c.loop-filled in
    let over : length c.loop-filled.buf ≤ c.loop-filled.filled = omega (arith, c.loop-filled-test.false, c.loop-filled.invariant.size) in
    (subst (Consumes (brings c.args.incoming.now) (brings l.incoming)) (take_all l.filled l.buf over) l.invariant.came, none_at_all l.buf l.filled (omega (arith, l.invariant.size, l.invariant.within)) over l.invariant.none)
