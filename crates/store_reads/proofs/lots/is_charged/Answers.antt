use Rattle.std.proofs.Common.{sym, ◌∙◌}
use Rattle.sqlite.specs.Held.{state}
use Rattle.store_reads.proofs.ReadContents.{reads}
use Rattle.store_reads.proofs.lots.is_charged.Goals as goal

pub returns : goal.returns
returns g c = record {
  value =
      reads (state g.S.Store c.args.conn.now) (state g.S.Store c.is_charged.new.conn) c.is_charged.result _ _ c.is_charged.ensures.found
      (λ d sound x is. is ∙ sym (c.blanks_by_serial.ensures.charged d.facts c.args.blank));
  looks = c.is_charged.ensures.looks;
}

pub is_charged-requires-clause-serial : goal.is_charged-requires-clause-serial
is_charged-requires-clause-serial g c = c.is_in_range.ensures.0 c.if-not-is_in_range.false
