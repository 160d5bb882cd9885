use Rattle.std.proofs.Common.{arith, subst, sym}
use Rattle.sqlite.specs.Held.{state}
use Rattle.sqlite.specs.State.{HasCleanDisk}
use Rattle.image_laws.specs.Image.{image}
use Rattle.sql_rows.specs.Image.{IsImage}
use Rattle.store_reads.proofs.Knowing.{knows_after}
use Rattle.store_reads.proofs.Placed.{session_placed}
use Rattle.store_reads.proofs.ReadContents.{if_ok}
use Rattle.store_reads.proofs.changes.place_of_session.Goals as goal

pub returns-clause-value : goal.returns-clause-value
returns-clause-value g c clean =
    let mid = state g.S.Store c.session.new.conn in
    let early : HasCleanDisk mid = omega (arith, clean, c.place_of.ensures.looks.survives.clean) in
    let found = (rw c.in-Some.is at c.in_ok-row.ensures.value) early in
    if_ok c.place_of.result _ _
    (λ p given live d sound is.
    let mid_open = (c.place_of.ensures.looks.kept clean).was_open live in
    let here : IsImage (image d) mid.now = subst (IsImage (image d)) (sym ((c.session.ensures.looks.kept early).now_is mid_open)) is in
    session_placed d.facts c.args.number c.in-Some.row (found.1 d sound is) p (given live d sound here))
    (c.place_of.ensures.value clean)

pub place_of-requires-clause-knows : goal.place_of-requires-clause-knows
place_of-requires-clause-knows g c =
    knows_after (state g.S.Store c.args.conn.now) (state g.S.Store c.session.new.conn) c.args.known.now c.session.ensures.looks c.requires.knows
