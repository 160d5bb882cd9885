use Rattle.std.proofs.Common.{sym, ◌∙◌}
use Rattle.sqlite.specs.Held.{state}
use Rattle.store_reads.proofs.ReadContents.{reads}
use Rattle.store_reads.proofs.sessions.running_session.Goals as goal

pub returns : goal.returns
returns g c = record {
  value =
      let law = c.running_sessions_by_machine.ensures in
      reads (state g.S.Store c.args.conn.now) (state g.S.Store c.running_session.new.conn) c.running_session.result _ _ c.running_session.ensures.finds.found
      (λ d sound x is. is (law.once d.facts c.args.machine.now sound.facts) ∙ sym (law.number d.facts c.args.machine.now));
  looks = c.running_session.ensures.finds.looks;
}
