use Rattle.std.proofs.Common.{Some, None, arith}
use Rattle.sqlite.specs.Held.{state}
use Rattle.sqlite.specs.State.{HasCleanDisk}
use Rattle.store_reads.proofs.ByKnown.{segment_by_known, segment_by_read, sound_apart}
use Rattle.store_reads.proofs.Knowing.{knows_after, knows_more}
use Rattle.store_reads.proofs.ReadContents.{looks_then}
use Rattle.store_reads.proofs.segments.segment.Goals as goal

-- ---- a cached record

pub returns-in_err-row-clause-knows : goal.returns-in_err-row-clause-knows
returns-in_err-row-clause-knows g c =
    knows_after (state g.S.Store c.args.conn.now) (state g.S.Store c.segment_of.new.conn) c.args.known.now c.segment_of.ensures.looks c.requires.knows

pub returns-in-Some-2-clause-knows : goal.returns-in-Some-2-clause-knows
returns-in-Some-2-clause-knows g c =
    knows_after (state g.S.Store c.args.conn.now) (state g.S.Store c.segment_of.new.conn) c.args.known.now c.segment_of.ensures.looks c.requires.knows

pub returns-in-Some-2-clause-value : goal.returns-in-Some-2-clause-value
returns-in-Some-2-clause-value g c clean =
    segment_by_known c.in-Some.card.now c.args.batch.now c.args.rec.now (c.in-Some.ensures.batch, c.in-Some.ensures.rec) c.args.app c.args.segment
    (state g.S.Store c.args.conn.now) c.args.known.now c.requires.knows (sound_apart c.batches_by_name.ensures.once c.records_by_name.ensures.once) (Some c.in-Some-2.row)
    (state g.S.Store c.segment_of.new.conn) c.segment_of.ensures.looks c.in-Some.ensures.known ((rw c.in-Some-2.is at c.in_ok-row.ensures.open) clean) clean
    ((rw c.in-Some-2.is at c.in_ok-row.ensures.value) clean)

pub note_standing-requires-clause-knows : goal.note_standing-requires-clause-knows
note_standing-requires-clause-knows g c =
    knows_after (state g.S.Store c.args.conn.now) (state g.S.Store c.segment_of.new.conn) c.args.known.now c.segment_of.ensures.looks c.requires.knows

-- only the read in `note_standing` shows that the connection is open
pub returns-in-Some-clause-value : goal.returns-in-Some-clause-value
returns-in-Some-clause-value g c clean =
    let mid = state g.S.Store c.segment_of.new.conn in
    let early : HasCleanDisk mid = omega (arith, clean, c.note_standing.ensures.looks.survives.clean) in
    segment_by_known c.in-Some.card.now c.args.batch.now c.args.rec.now (c.in-Some.ensures.batch, c.in-Some.ensures.rec) c.args.app c.args.segment
    (state g.S.Store c.args.conn.now) c.args.known.now c.requires.knows (sound_apart c.batches_by_name.ensures.once c.records_by_name.ensures.once) None
    mid c.segment_of.ensures.looks c.in-Some.ensures.known ((c.segment_of.ensures.looks.kept early).was_open (c.in_ok-note_standing.ensures.open clean)) early
    ((rw c.in_default-2.is at c.in_ok-row.ensures.value) early)

-- ---- a record that isn't cached

pub returns-in_err-card-clause-knows : goal.returns-in_err-card-clause-knows
returns-in_err-card-clause-knows g c =
    knows_after (state g.S.Store c.args.conn.now) (state g.S.Store c.record_found.new.conn) c.args.known.now c.record_found.ensures.looks c.requires.knows

pub returns-in_default-3-clause-knows : goal.returns-in_default-3-clause-knows
returns-in_default-3-clause-knows g c =
    knows_after (state g.S.Store c.args.conn.now) (state g.S.Store c.record_found.new.conn) c.args.known.now c.record_found.ensures.looks c.requires.knows

pub returns-in_default-3-clause-value : goal.returns-in_default-3-clause-value
returns-in_default-3-clause-value g c clean =
    let s = c.in_ok-card.ensures.none clean in
    (s.0, λ d sound is. s.1 d sound is c.in_default-3.is c.args.app c.args.segment)

pub returns-in_err-row-2-clause-knows : goal.returns-in_err-row-2-clause-knows
returns-in_err-row-2-clause-knows g c =
    let old = state g.S.Store c.args.conn.now in
    let mid = state g.S.Store c.record_found.new.conn in
    let new = state g.S.Store c.segment_of-2.new.conn in
    knows_after old new c.args.known.now (looks_then old mid new c.record_found.ensures.looks c.segment_of-2.ensures.looks) c.requires.knows

pub returns-clause-value : goal.returns-clause-value
returns-clause-value g c =
    segment_by_read c.in-Some-3.card c.args.batch.now c.args.rec.now (rw c.in-Some-3.is at c.in_ok-card.ensures.named) c.args.app c.args.segment
    (state g.S.Store c.args.conn.now) c.args.known.now c.requires.knows (sound_apart c.batches_by_name.ensures.once c.records_by_name.ensures.once) c.in_ok-row-2.row
    (state g.S.Store c.record_found.new.conn) (state g.S.Store c.segment_of-2.new.conn) c.record_found.ensures.looks c.segment_of-2.ensures.looks
    (rw c.in-Some-3.is at c.in_ok-card.ensures.known) c.in_ok-row-2.ensures.value

pub returns-clause-knows : goal.returns-clause-knows
returns-clause-knows g c =
    knows_more (state g.S.Store c.args.conn.now) (state g.S.Store c.record_found.new.conn) (state g.S.Store c.segment_of-2.new.conn) c.args.known.now c.keep.new.self c.in-Some-3.card
    c.record_found.ensures.looks c.segment_of-2.ensures.looks (rw c.in-Some-3.is at c.in_ok-card.ensures.known) c.requires.knows c.keep.ensures.records c.keep.ensures.standing c.keep.ensures.counted
