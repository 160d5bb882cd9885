use Rattle.std.proofs.Common.{false, arith, ◌∙◌}
use Rattle.sqlite.specs.Held.{state}
use Rattle.sqlite.specs.State.{HasCleanDisk}
use Rattle.sqlite.proofs.InsideLemmas.{keeps_then}
use Rattle.job_facts.specs.declared.facts.RecordState.TheVariants as rec
use Rattle.sql_base.proofs.Ending.{inside_then, wrote_then}
use Rattle.sql_base.proofs.Lasting.{outlives}
use Rattle.sql_rows.specs.Image.{Moves}
use Rattle.table_rows.specs.After.{less, more, new_session, one_opened, record_after}
use Rattle.table_rows.specs.Tables.{StoredBlank, Tables, with_blank, with_session}
use Rattle.change_writes.proofs.Parts.{moved_on}
use Rattle.change_writes.proofs.cards.write_opened.Goals as goal

pub returns : goal.returns
returns g c = record {
  wrote = λ clean.
      let v = c.args in
      let s = v.session.now in
      let p = v.place.now in
      let charged : StoredBlank = record { serial = s.blank; lot = s.lot; discarded = false } in
      let opened = with_session (new_session s.number p s.machine s.blank) in
      let both = λ (t : Tables). with_blank charged (opened t) in
      let after = record_after p rec.Running p.spoiled p.remakes (one_opened (more rec.Running (less rec.Waiting p.totals))) in
      let a = state g.S.Store v.tx.now.conn.now in
      let b = state g.S.Store c.add_session.new.tx.conn.now in
      let d = state g.S.Store c.add_blank.new.tx.conn.now in
      let late : HasCleanDisk d = omega (arith, c.write_record.ensures.survives.clean) in
      let two = c.in_ok-add_blank.ensures.wrote late in
      let one = c.in_ok-add_session.ensures.wrote (omega (arith, c.add_blank.ensures.survives.clean)) in
      wrote_then (Moves both) (Moves after) (Moves (λ t. after (both t))) a d _ c.write_record.result (moved_on both after _ _ _)
      (inside_then (Moves opened) (Moves (with_blank charged)) (Moves both) a b d (moved_on opened (with_blank charged) _ _ _) one.well two.well)
      (keeps_then a b d one.kept two.kept)
      (rw c.opened-totals.ensures.value at (c.write_record.ensures.wrote clean));
  same_reference = c.write_record.ensures.same_reference ∙ c.add_blank.ensures.same_reference ∙ c.add_session.ensures.same_reference;
  survives = outlives (outlives c.add_session.ensures.survives c.add_blank.ensures.survives) c.write_record.ensures.survives;
}
