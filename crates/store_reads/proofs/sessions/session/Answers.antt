use Rattle.std.proofs.Common.{Some, ap, arith, sym, ◌∙◌}
use Rattle.std.specs.Prelude.{find}
use Rattle.sqlite.specs.Held.{state}
use Rattle.sqlite.specs.State.{HasCleanDisk}
use Rattle.image_laws.specs.Image.{image, stored_batches, stored_records, stored_sessions}
use Rattle.table_rows.specs.Keys.{is_record_at}
use Rattle.store_reads.proofs.ByKnown.{session_by_known, sound_apart}
use Rattle.store_reads.proofs.Found.{name_read, no_batch, no_record, no_session, session_read}
use Rattle.store_reads.proofs.KnownRows.{known_in}
use Rattle.store_reads.proofs.ReadContents.{both_shown, looks_then, shown, three_shown}
use Rattle.store_reads.proofs.sessions.session.Goals as goal

pub returns-in_default-clause-value : goal.returns-in_default-clause-value
returns-in_default-clause-value g c =
    let id = c.args.session in
    shown (state g.S.Store c.args.conn.now) (state g.S.Store c.session.new.conn) _ _ (rw c.in_default.is at c.in_ok-found.ensures.finds.found)
    (λ d sound is.
    no_session (stored_sessions d.facts) (stored_batches d.facts) (stored_records d.facts) id (is (c.sessions_by_number.ensures.once d.facts id))
    ∙ sym (c.sessions_by_number.ensures.row d.facts id sound.facts))

pub returns-in_default-2-clause-value : goal.returns-in_default-2-clause-value
returns-in_default-2-clause-value g c =
    let id = c.args.session in
    let s = c.in-Some.found in
    both_shown (state g.S.Store c.args.conn.now) (state g.S.Store c.session.new.conn) (state g.S.Store c.batch_name.new.conn) _ _ _ c.session.ensures.finds.looks c.batch_name.ensures.looks
    (rw c.in-Some.is at c.in_ok-found.ensures.finds.found) (rw c.in_default-2.is at c.in_ok-batch.ensures.found)
    (λ d sound first second.
    no_batch (stored_sessions d.facts) (stored_batches d.facts) (stored_records d.facts) id s (first (c.sessions_by_number.ensures.once d.facts id)) (second (c.batches_by_id.ensures.once d.facts s.batch))
    ∙ sym (c.sessions_by_number.ensures.row d.facts id sound.facts))

pub returns-in_default-3-clause-value : goal.returns-in_default-3-clause-value
returns-in_default-3-clause-value g c =
    let id = c.args.session in
    let s = c.in-Some.found in
    three_shown (state g.S.Store c.args.conn.now) (state g.S.Store c.session.new.conn) (state g.S.Store c.batch_name.new.conn) (state g.S.Store c.record_at.new.conn) _ _ _ _
    c.session.ensures.finds.looks c.batch_name.ensures.looks c.record_at.ensures.finds.looks
    (rw c.in-Some.is at c.in_ok-found.ensures.finds.found) (rw c.in-Some-2.is at c.in_ok-batch.ensures.found) (rw c.in_default-3.is at c.in_ok-card.ensures.finds.found)
    (λ d sound first second third.
    no_record (stored_sessions d.facts) (stored_batches d.facts) (stored_records d.facts) id s (first (c.sessions_by_number.ensures.once d.facts id)) c.in-Some-2.batch
    (second (c.batches_by_id.ensures.once d.facts s.batch)) (third (c.records_by_place.ensures.once d.facts s.batch s.place)) ∙ sym (c.sessions_by_number.ensures.row d.facts id sound.facts))

pub returns-clause-value : goal.returns-clause-value
returns-clause-value g c =
    let id = c.args.session in
    let s = c.in-Some.found in
    three_shown (state g.S.Store c.args.conn.now) (state g.S.Store c.session.new.conn) (state g.S.Store c.batch_name.new.conn) (state g.S.Store c.record_at.new.conn) _ _ _ _
    c.session.ensures.finds.looks c.batch_name.ensures.looks c.record_at.ensures.finds.looks
    (rw c.in-Some.is at c.in_ok-found.ensures.finds.found) (rw c.in-Some-2.is at c.in_ok-batch.ensures.found) (rw c.in-Some-3.is at c.in_ok-card.ensures.finds.found)
    (λ d sound first second third.
    ap Some c.row_named-2.ensures
    ∙ session_read (stored_sessions d.facts) (stored_batches d.facts) (stored_records d.facts) id s (first (c.sessions_by_number.ensures.once d.facts id))
    c.in-Some-2.batch (second (c.batches_by_id.ensures.once d.facts s.batch))
    c.in-Some-3.card.name (name_read (find (is_record_at s.batch s.place) (stored_records d.facts)) c.in-Some-3.card (third (c.records_by_place.ensures.once d.facts s.batch s.place)))
    ∙ sym (c.sessions_by_number.ensures.row d.facts id sound.facts))

pub returns-in-Some-at-clause-value : goal.returns-in-Some-at-clause-value
returns-in-Some-at-clause-value g c clean =
    let old = state g.S.Store c.args.conn.now in
    let s = c.in-Some.found in
    let k = c.in-Some-at.card.now in
    let early : HasCleanDisk old = omega (arith, clean, c.session.ensures.finds.looks.survives.clean) in
    let shows = (rw c.in-Some.is at c.in_ok-found.ensures.finds.found) clean in (
      shows.0,
      λ d sound is.
          let known = known_in old c.args.known.now c.requires.knows early shows.0 k c.in-Some-at.ensures.known (image d) is (sound_apart c.batches_by_name.ensures.once c.records_by_name.ensures.once d sound) in
          ap Some c.row_named.ensures
          ∙ session_by_known d k known (c.batches_by_id.ensures.once d.facts) (c.records_by_place.ensures.once d.facts) c.args.session s (shows.1 (image d) is (c.sessions_by_number.ensures.once d.facts c.args.session))
          c.in-Some-at.ensures.id c.in-Some-at.ensures.place
          ∙ sym (c.sessions_by_number.ensures.row d.facts c.args.session sound.facts),
    )

pub returns-clause-looks : goal.returns-clause-looks
returns-clause-looks g c =
    let old = state g.S.Store c.args.conn.now in
    let mid = state g.S.Store c.batch_name.new.conn in
    looks_then old mid (state g.S.Store c.record_at.new.conn)
    (looks_then old (state g.S.Store c.session.new.conn) mid c.session.ensures.finds.looks c.batch_name.ensures.looks)
    c.record_at.ensures.finds.looks

pub session-requires-clause-id : goal.session-requires-clause-id
session-requires-clause-id g c = c.is_in_range.ensures.0 c.if-not-is_in_range.false
