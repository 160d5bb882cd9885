use Rattle.std.proofs.Common.{◌&&◌, ◌∙◌, MatchOption, ap, subst}
use Rattle.sqlite.specs.Held.{state}
use Rattle.sqlite.specs.State.{HasCleanDisk}
use Rattle.table_reads.specs.Reading.{HasMost, HoldsNoneOf}
use Rattle.table_reads.specs.declared.tables.HeldRows.{HeldRows}
use Rattle.table_reads.proofs.RowsHeld.{BriefRead, none_brief, put_together}
use Rattle.table_reads.proofs.Together.{early}
use Rattle.table_reads.proofs.Looking.{◌▷◌, looks_past, looks_well}
use Rattle.table_reads.proofs.tables.read_for_audit.Goals as goal

pub returns-in_default-2-clause-value : goal.returns-in_default-2-clause-value
returns-in_default-2-clause-value g c clean =
    let s0 = state g.S.Store c.args.conn.now in
    let s1 = state g.S.Store c.read_most.new.conn in
    let before : HasCleanDisk s1 = early s1 (state g.S.Store c.brief_replies.new.conn) c.brief_replies.ensures.looks.survives clean in
    let kept = c.read_most.ensures.looks.kept before in
    let read = c.in_ok-replies.ensures.value clean in
    ((c.in_ok-held.ensures.value before).0, none_brief c.args.version s0.now _ c.in_default-2.is (subst (λ db. BriefRead db c.in_ok-replies.field-0) (kept.now_is read.0) read.1))

pub returns-clause-value : goal.returns-clause-value
returns-clause-value g c clean =
    let v = c.args.version in
    let s0 = state g.S.Store c.args.conn.now in
    let s1 = state g.S.Store c.read_most.new.conn in
    let before : HasCleanDisk s1 = early s1 (state g.S.Store c.brief_replies.new.conn) c.brief_replies.ensures.looks.survives clean in
    let kept = c.read_most.ensures.looks.kept before in
    let read = c.in_ok-replies.ensures.value clean in
    let most = c.in_ok-held.ensures.value before in
    let has = subst (λ found. MatchOption found (HoldsNoneOf v s0.now) (HasMost v s0.now)) c.in-Some.is most.1 in
    let replies = c.in-Some-2.replies in
    let brief = subst (λ db. BriefRead db c.in_ok-replies.field-0) (kept.now_is read.0) read.1 in
    let tables = ap (λ (h : HeldRows). h.tables) c.held.view_is in
    let apart = c.rows_beside.ensures.apart ∙ ap (λ (h : HeldRows). h.apart && replies.apart) c.held.view_is in
    (most.0, put_together v s0.now c.in-Some.held has _ replies c.in-Some-2.is brief _ _ _ tables c.rows_beside.ensures.rows apart)

pub returns-in_err-replies-clause-looks : goal.returns-in_err-replies-clause-looks
returns-in_err-replies-clause-looks g c =
    let r = c.from_residual-in_err-replies in
    c.read_most.ensures.looks ▷ looks_past c.brief_replies.ensures.looks r.result c.in_err-replies.field-0.0 r.ensures.1 c.in_err-replies.ensures.looks.cause

pub returns-in_default-2-clause-looks : goal.returns-in_default-2-clause-looks
returns-in_default-2-clause-looks g c = looks_well (c.read_most.ensures.looks ▷ c.brief_replies.ensures.looks) _

pub returns-clause-looks : goal.returns-clause-looks
returns-clause-looks g c = looks_well (c.read_most.ensures.looks ▷ c.brief_replies.ensures.looks) _
