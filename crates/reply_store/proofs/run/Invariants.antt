use Rattle.std.proofs.Common.{◌≡◌, ◌≤◌, map, length, take, vec_len}
use Rattle.std.specs.Prelude.{vec_capacity}
use Rattle.std.specs.List.{zip}
use Rattle.job_facts.specs.Contents.{Contents}
use Rattle.job_facts.specs.Store.{IsHonest}
use Rattle.reply_store.specs.Runs.{arrived, AreNext, Runs}
use Rattle.reply_store.proofs.run.Given as goal

abbrev pub invariant-loop-arrival : goal.invariant-loop-arrival
invariant-loop-arrival g l =
    let state = g.S.JobStore.state in
    let so_far = zip (map arrived (take l.arrival-index l.arrivals)) l.outcomes.items in
    record {
      runs : Runs (state l.fn.store) (state l.store) so_far;
      next : IsHonest (state l.store) → (c : Contents) → (state l.fn.store).holds c → AreNext c so_far;
      count : vec_len l.outcomes ≡ l.arrival-index;
      room : length l.arrivals ≤ vec_capacity l.outcomes;
    }
