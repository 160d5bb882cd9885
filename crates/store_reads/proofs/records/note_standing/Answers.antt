use Rattle.sqlite.specs.Held.{state}
use Rattle.store_reads.proofs.Knowing.{knows_after, knows_standing}
use Rattle.store_reads.proofs.KnownRows.{named_stands, records_once}
use Rattle.store_reads.proofs.ReadContents.{rows_as}
use Rattle.store_reads.proofs.records.note_standing.Goals as goal

pub returns-in_err-card-clause-knows : goal.returns-in_err-card-clause-knows
returns-in_err-card-clause-knows g c =
    knows_after (state g.S.Store c.args.conn.now) (state g.S.Store c.record_named.new.conn) c.args.known.now c.record_named.ensures.finds.looks c.requires.knows

pub returns-in_default-clause-knows : goal.returns-in_default-clause-knows
returns-in_default-clause-knows g c =
    knows_after (state g.S.Store c.args.conn.now) (state g.S.Store c.record_named.new.conn) c.args.known.now c.record_named.ensures.finds.looks c.requires.knows

pub returns-clause-knows : goal.returns-clause-knows
returns-clause-knows g c =
    let id = c.args.id in
    let n = c.args.rec.now in
    let old = state g.S.Store c.args.conn.now in
    let new = state g.S.Store c.record_named.new.conn in
    knows_standing old new c.args.known.now c.note.new.self id c.in-Some.card c.record_named.ensures.finds.looks
    (rows_as old new _ _ (rw c.in-Some.is at c.in_ok-card.ensures.finds.found) (λ t is apart. named_stands t id n c.in-Some.card (is (records_once t apart id n)))) c.requires.knows c.note.ensures.records c.note.ensures.standing.0 c.note.ensures.counted
