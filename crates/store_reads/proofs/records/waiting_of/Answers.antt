use Rattle.std.proofs.Common.{Some, None, refl}
use Rattle.sqlite.specs.Held.{state}
use Rattle.store_reads.proofs.Knowing.{knows_after, knows_standing}
use Rattle.store_reads.proofs.KnownRows.{waiting_stands}
use Rattle.store_reads.proofs.ReadContents.{rows_as}
use Rattle.store_reads.proofs.records.waiting_of.Goals as goal

pub returns-in_err-card-clause-knows : goal.returns-in_err-card-clause-knows
returns-in_err-card-clause-knows g c =
    knows_after (state g.S.Store c.args.conn.now) (state g.S.Store c.first_waiting.new.conn) c.args.known.now c.first_waiting.ensures.finds.looks c.requires.knows

pub returns-in_default-clause-knows : goal.returns-in_default-clause-knows
returns-in_default-clause-knows g c =
    knows_after (state g.S.Store c.args.conn.now) (state g.S.Store c.first_waiting.new.conn) c.args.known.now c.first_waiting.ensures.finds.looks c.requires.knows

pub returns-in_default-clause-value : goal.returns-in_default-clause-value
returns-in_default-clause-value g c =
    rows_as (state g.S.Store c.args.conn.now) (state g.S.Store c.first_waiting.new.conn) _ _ (rw c.in_default.is at c.in_ok-card.ensures.finds.found) (λ t least. (None, least, refl))

pub returns-clause-value : goal.returns-clause-value
returns-clause-value g c =
    rows_as (state g.S.Store c.args.conn.now) (state g.S.Store c.first_waiting.new.conn) _ _ (rw c.in-Some.is at c.in_ok-card.ensures.finds.found) (λ t least. (Some c.in-Some.card, least, refl))

pub returns-clause-knows : goal.returns-clause-knows
returns-clause-knows g c =
    let old = state g.S.Store c.args.conn.now in
    let new = state g.S.Store c.first_waiting.new.conn in
    knows_standing old new c.args.known.now c.note.new.self c.args.id c.in-Some.card c.first_waiting.ensures.finds.looks
    (rows_as old new _ _ (rw c.in-Some.is at c.in_ok-card.ensures.finds.found) (λ t least apart. waiting_stands t c.args.id c.in-Some.card least)) c.requires.knows c.note.ensures.records c.note.ensures.standing.0 c.note.ensures.counted
