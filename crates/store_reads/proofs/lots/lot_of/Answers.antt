use Rattle.std.proofs.Common.{ℕ, ◌≤◌, ◌<◌, ◌^◌, subst, ap, ◌∙◌, arith}
use Rattle.std.proofs.Math.Nat.{le-min, min-le_left}
use Rattle.std.specs.Prelude.{min}
use Rattle.sqlite.specs.Held.{state}
use Rattle.job_facts.specs.States.{lot_of}
use Rattle.row_reads.specs.Extremes.{IsLastBegun}
use Rattle.row_reads.specs.declared.lots.TheConstants.{MOST_SERIAL}
use Rattle.store_reads.proofs.LastLot.{last_contains, listed}
use Rattle.store_reads.proofs.ReadContents.{shown}
use Rattle.store_reads.proofs.lots.lot_of.Goals as goal

pub returns : goal.returns
returns g c = record {
  value =
      let blank = c.args.blank in
      let serial = min blank MOST_SERIAL in
      let low : serial ≤ blank = min-le_left blank MOST_SERIAL in
      let high : (m : ℕ) → m ≤ blank → m < 10 ^ 18 → m ≤ serial = λ m least range. le-min least (omega arith) in
      shown (state g.S.Store c.args.conn.now) (state g.S.Store c.last_lot.new.conn) _ _ c.in_ok-last.ensures.found
      (λ d sound last.
      c.copied.ensures ∙ c.lot_among.ensures ∙ ap (λ lots. lot_of lots blank) (listed c.in_ok-last.last c.as_slice.result.now c.as_slice.ensures)
      ∙ last_contains d.facts.products d.facts.lots sound.facts.named.lots blank serial low high c.in_ok-last.last
      (subst (λ lots. IsLastBegun serial lots c.in_ok-last.last) (c.lots_by_name.ensures.all d.facts) last));
  looks = c.last_lot.ensures.looks;
}
