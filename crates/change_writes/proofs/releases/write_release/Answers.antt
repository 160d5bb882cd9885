use Rattle.std.proofs.Common.{arith, ◌∙◌}
use Rattle.sqlite.specs.Held.{state}
use Rattle.sqlite.specs.State.{HasCleanDisk}
use Rattle.sqlite.proofs.InsideLemmas.{keeps_then}
use Rattle.job_facts.specs.Contents.{Mark}
use Rattle.sql_base.proofs.Ending.{inside_then, wrote_then}
use Rattle.sql_base.proofs.Lasting.{outlives}
use Rattle.sql_rows.specs.Image.{Moves}
use Rattle.table_rows.specs.Tables.{Tables, with_mark, without_mark, without_replies}
use Rattle.change_writes.proofs.Parts.{moved_on}
use Rattle.change_writes.proofs.releases.write_release.Goals as goal

pub returns : goal.returns
returns g c = record {
  wrote = λ clean.
      let v = c.args in
      let client = v.client.now in
      let mark : Mark = record { client = client; upto = v.upto } in
      let gone = λ (t : Tables). without_mark client (without_replies client v.upto t) in
      let a = state g.S.Store v.tx.now.conn.now in
      let b = state g.S.Store c.drop_replies.new.tx.conn.now in
      let d = state g.S.Store c.drop_mark.new.tx.conn.now in
      let clean_d : HasCleanDisk d = omega (arith, c.add_mark.ensures.survives.clean) in
      let one = c.in_ok-drop_replies.ensures.wrote (omega (arith, c.drop_mark.ensures.survives.clean)) in
      let two = c.in_ok-drop_mark.ensures.wrote clean_d in
      let first = inside_then (Moves (without_replies client v.upto)) (Moves (without_mark client)) (Moves gone) a b d (moved_on (without_replies client v.upto) (without_mark client) _ _ _) one.well two.well in
      wrote_then (Moves gone) (Moves (with_mark mark)) (Moves (λ t. with_mark mark (gone t))) a d _ c.add_mark.result
      (moved_on gone (with_mark mark) _ _ _) first (keeps_then a b d one.kept two.kept) (c.add_mark.ensures.wrote clean);
  same_reference = c.add_mark.ensures.same_reference ∙ c.drop_mark.ensures.same_reference ∙ c.drop_replies.ensures.same_reference;
  survives = outlives (outlives c.drop_replies.ensures.survives c.drop_mark.ensures.survives) c.add_mark.ensures.survives;
}
