use Rattle.std.proofs.Common.{map, subst}
use Rattle.std.proofs.lemmas.Result.{err_from_is_err_and}
use Rattle.std.specs.Io.KnownBytes.{Appends}
use Rattle.text_io.specs.Written.{AppendsBeginning}
use Rattle.drill.specs.Steps.{Steps, effect_of, effect_view}
use Rattle.drill.proofs.Runs.{line_bad, line_goes, line_unmade, line_unopened, line_unwritten}
use Rattle.drill.proofs.ScriptLemmas.{text_of}
use Rattle.drill.proofs.engine.do_line.Goals as goal

pub returns-in_err-did-clause-ends : goal.returns-in_err-did-clause-ends
returns-in_err-did-clause-ends g c =
    let p = err_from_is_err_and c.from_residual.result c.from_residual.ensures.1 in
    rw (p.1, p.2) (line_unmade g.S.JobStore.state g.S.Reopen.usable c.args.store c.args.floor.now _ _ (g.W.Write.contents c.args.writer.now))

pub returns-in_default-clause-ends : goal.returns-in_default-clause-ends
returns-in_default-clause-ends g c =
    line_bad g.S.JobStore.state g.S.Reopen.usable c.args.store c.step.new.store c.args.floor.now c.args.line.number c.args.line.text.now c.args.line.behind.now (g.W.Write.contents c.args.writer.now)
    (subst (λ o. Steps g.S.JobStore.state c.args.store c.step.new.store c.args.floor.now c.args.line.text.now (map text_of c.args.line.behind.now) (effect_of c.step.new.floor o)) c.in_default.is c.in_ok-did.ensures.steps)

pub returns-in_err-write_text-clause-ends : goal.returns-in_err-write_text-clause-ends
returns-in_err-write_text-clause-ends g c =
    let behind = map text_of c.args.line.behind.now in
    let a = g.W.Write.contents c.args.writer.now in
    let b = g.W.Write.contents c.write_text.new.writer in
    let p = err_from_is_err_and c.from_residual-in_err-write_text.result c.from_residual-in_err-write_text.ensures.1 in
    rw (p.1, p.2)
    (line_unwritten g.S.JobStore.state g.S.Reopen.usable c.args.store c.step.new.store c.args.floor.now _ c.args.line.text.now behind (effect_view c.step.new.floor c.in-Some.did) a b
    (subst (λ o. Steps g.S.JobStore.state c.args.store c.step.new.store c.args.floor.now c.args.line.text.now behind (effect_of c.step.new.floor o)) c.in-Some.is c.in_ok-did.ensures.steps)
    (subst (AppendsBeginning a b) c.as_slice.ensures.value c.in_err-write_text.ensures))

pub returns-in_err-store-clause-ends : goal.returns-in_err-store-clause-ends
returns-in_err-store-clause-ends g c =
    let behind = map text_of c.args.line.behind.now in
    let a = g.W.Write.contents c.args.writer.now in
    let b = g.W.Write.contents c.write_text.new.writer in
    let p = err_from_is_err_and c.from_residual-in_err-store.result c.from_residual-in_err-store.ensures.1 in
    let (stops, (fault, is)) = c.in_err-store.ensures.stopped in
    rw (p.1, p.2, is)
    (line_unopened g.S.JobStore.state g.S.Reopen.usable c.args.store c.step.new.store c.args.floor.now _ c.args.line.text.now behind (effect_view c.step.new.floor c.in-Some.did) a b fault
    (subst (λ o. Steps g.S.JobStore.state c.args.store c.step.new.store c.args.floor.now c.args.line.text.now behind (effect_of c.step.new.floor o)) c.in-Some.is c.in_ok-did.ensures.steps)
    (subst (Appends a b) c.as_slice.ensures.value c.in_ok-write_text.ensures) stops)

pub returns-clause-done : goal.returns-clause-done
returns-clause-done g c =
    let behind = map text_of c.args.line.behind.now in
    let a = g.W.Write.contents c.args.writer.now in
    let b = g.W.Write.contents c.write_text.new.writer in
    line_goes g.S.JobStore.state g.S.Reopen.usable c.args.store c.step.new.store c.in_ok-store.store c.args.floor.now c.args.line.text.now behind (effect_view c.step.new.floor c.in-Some.did) a b
    (subst (λ o. Steps g.S.JobStore.state c.args.store c.step.new.store c.args.floor.now c.args.line.text.now behind (effect_of c.step.new.floor o)) c.in-Some.is c.in_ok-did.ensures.steps)
    c.in_ok-store.ensures.goes (subst (Appends a b) c.as_slice.ensures.value c.in_ok-write_text.ensures)
