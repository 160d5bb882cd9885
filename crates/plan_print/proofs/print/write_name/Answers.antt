use Rattle.std.proofs.Common.{[], ◌∷◌, ◌++◌, codes, subst}
use Rattle.std.proofs.KnownBytes.{Appends-nil, Appends-trans}
use Rattle.std.specs.Io.KnownBytes.{Appends}
use Rattle.text_io.specs.Written.{AppendsBeginning}
use Rattle.text_io.proofs.Pieces.{begun, stopped, writes_then}
use Rattle.text_io.specs.Written.{line}
use Rattle.plan_print.proofs.print.write_name.Goals as goal

pub returns-in_err-write_text : goal.returns-in_err-write_text
returns-in_err-write_text g c =
    let before = g.W.Write.contents c.args.writer.now in
    let after = g.W.Write.contents c.write_text.new.writer in
    stopped _ before after (line (codes "record " ++ c.args.name.now)) c.from_residual.result c.from_residual.ensures.1
    (begun before before after [] (codes "record ") (c.args.name.now ++ 10 ∷ []) (Appends-nil before) c.in_err-write_text.ensures)

pub returns-in_err-write_text-2 : goal.returns-in_err-write_text-2
returns-in_err-write_text-2 g c =
    let before = g.W.Write.contents c.args.writer.now in
    let mid = g.W.Write.contents c.write_text.new.writer in
    let after = g.W.Write.contents c.write_text-2.new.writer in
    stopped _ before after (line (codes "record " ++ c.args.name.now)) c.from_residual-in_err-write_text-2.result c.from_residual-in_err-write_text-2.ensures.1
    (begun before mid after (codes "record ") c.args.name.now (10 ∷ []) c.in_ok-write_text.ensures
    (subst (AppendsBeginning mid after) c.bytes.ensures.value c.in_err-write_text-2.ensures))

pub returns : goal.returns
returns g c =
    let before = g.W.Write.contents c.args.writer.now in
    let first = g.W.Write.contents c.write_text.new.writer in
    let second = g.W.Write.contents c.write_text-2.new.writer in
    let after = g.W.Write.contents c.write_text-3.new.writer in
    writes_then before second after (codes "record " ++ c.args.name.now) (10 ∷ []) c.write_text-3.result
    (Appends-trans before first second (codes "record ") c.args.name.now c.in_ok-write_text.ensures (subst (Appends first second) c.bytes.ensures.value c.in_ok-write_text-2.ensures))
    c.write_text-3.ensures
