use Rattle.std.proofs.Common.{arith, subst}
use Rattle.sqlite.specs.Held.{state}
use Rattle.sqlite.specs.State.{HasCleanDisk}
use Rattle.examination.specs.Standings.{IsSchemaMatch}
use Rattle.examination.proofs.FoundLemmas.{none_read, read_judged, stands_as}
use Rattle.table_reads.proofs.Looking.{◌▷◌, looks_past, looks_plainly, looks_well}
use Rattle.examination.proofs.finding.examine.Goals as goal

pub returns-in-NotOurs-clause-value : goal.returns-in-NotOurs-clause-value
returns-in-NotOurs-clause-value g c clean = subst (IsSchemaMatch (state g.S.Store c.args.conn.now).now) c.in-NotOurs.is (c.in_ok-found.ensures.value clean)

pub returns-in_default-clause-value : goal.returns-in_default-clause-value
returns-in_default-clause-value g c clean =
    let old = state g.S.Store c.args.conn.now in
    let mid = state g.S.Store c.standing_of.new.conn in
    let early : HasCleanDisk mid = omega (arith, c.in_ok-held.ensures.looks.survives.clean) in
    let is = stands_as old.now c.in_ok-found.field-0 c.in-Ours.found c.in-Ours.is (c.in_ok-found.ensures.value early) in
    none_read old mid (c.in_ok-found.ensures.looks.kept early) c.in-Ours.found is c.in_ok-held.field-0 c.in_default.is (c.in_ok-held.ensures.value clean)

pub returns-clause-value : goal.returns-clause-value
returns-clause-value g c clean =
    let old = state g.S.Store c.args.conn.now in
    let mid = state g.S.Store c.standing_of.new.conn in
    let early : HasCleanDisk mid = omega (arith, c.in_ok-held.ensures.looks.survives.clean) in
    let is = stands_as old.now c.in_ok-found.field-0 c.in-Ours.found c.in-Ours.is (c.in_ok-found.ensures.value early) in
    read_judged old mid (c.in_ok-found.ensures.looks.kept early) c.in-Ours.found is c.in_ok-held.field-0 c.in-Some.held c.in-Some.is (c.in_ok-held.ensures.value clean)
    c.judged.result c.judged.ensures.value

pub returns-in_err-found-clause-looks : goal.returns-in_err-found-clause-looks
returns-in_err-found-clause-looks g c =
    let r = c.from_residual in
    looks_past c.standing_of.ensures.looks r.result c.in_err-found.field-0.0 r.ensures.1 c.in_err-found.ensures.looks.cause

pub returns-in_err-held-clause-looks : goal.returns-in_err-held-clause-looks
returns-in_err-held-clause-looks g c =
    let r = c.from_residual-in_err-held in
    c.standing_of.ensures.looks ▷ looks_past c.read_for_audit.ensures.looks r.result c.in_err-held.field-0.0 r.ensures.1 c.in_err-held.ensures.looks.cause

pub returns-in_default-clause-looks : goal.returns-in_default-clause-looks
returns-in_default-clause-looks g c = looks_well (c.standing_of.ensures.looks ▷ c.read_for_audit.ensures.looks) _

pub returns-clause-looks : goal.returns-clause-looks
returns-clause-looks g c = c.standing_of.ensures.looks ▷ looks_plainly c.read_for_audit.ensures.looks c.judged.result c.judged.ensures.cause
