use Rattle.std.proofs.Common.{subst}
use Rattle.sqlite.specs.Held.{state}
use Rattle.sqlite.specs.State.{HasCleanDisk}
use Rattle.table_reads.specs.Reading.{ReadsTable}
use Rattle.table_reads.proofs.Together.{early}
use Rattle.table_reads.proofs.Looking.{◌▷◌, looks_past, looks_well}
use Rattle.table_reads.proofs.reads.both.Goals as goal

pub returns-clause-value : goal.returns-clause-value
returns-clause-value g c clean =
    let t = g.U.Stored in
    let before : HasCleanDisk (state g.S.Store c.whole.new.conn) = early _ (state g.S.Store c.whole-2.new.conn) c.whole-2.ensures.looks.survives clean in
    let one = c.in_ok-one.ensures.value before in
    let other = c.in_ok-other.ensures.value clean in
    (one.0, one.1, subst (λ db. ReadsTable t.encode t.fits t.by_rowid c.args.second.now db c.in_ok-other.other) ((c.whole.ensures.looks.kept before).now_is other.0) other.1)

pub returns-in_err-other-clause-looks : goal.returns-in_err-other-clause-looks
returns-in_err-other-clause-looks g c =
    let r = c.from_residual-in_err-other in
    c.whole.ensures.looks ▷ looks_past c.whole-2.ensures.looks r.result c.in_err-other.field-0.0 r.ensures.1 c.in_err-other.ensures.looks.cause

pub returns-clause-looks : goal.returns-clause-looks
returns-clause-looks g c = looks_well (c.whole.ensures.looks ▷ c.whole-2.ensures.looks) _
