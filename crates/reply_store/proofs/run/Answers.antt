use Rattle.std.proofs.Common.{rules, ◌≡◌, Ok, sym, subst, arith, List, take, map}
use Rattle.std.proofs.lemmas.Grind.{common_steps}
use Rattle.std.specs.List.{zip}
use Rattle.job_facts.specs.Contents.{Contents}
use Rattle.job_facts.specs.Store.{IsHonest}
use Rattle.reply_store.specs.Runs.{arrived, AreNext, Served, Runs}
use Rattle.reply_store.proofs.Running.{next_more, next_none, runs_more, runs_none, zip_more}
use Rattle.reply_store.proofs.run.Goals as goal

pub loop-arrival-init : goal.loop-arrival-init
loop-arrival-init g c =
    let now = g.S.JobStore.state c.args.store.now in
    record {
      runs = runs_none now (g.met.S.JobStore.sound c.args.store.now);
      next = next_none now;
      count = search rules;
      room = search rules;
    }

pub loop-arrival-preserved : goal.loop-arrival-preserved
loop-arrival-preserved g c =
    let state = g.S.JobStore.state in
    let i = c.loop-arrival.arrival-index in
    let so_far = zip (map arrived (take i c.args.arrivals.now)) c.loop-arrival.outcomes.items in
    let a = c.arrival-item.result in
    let r = c.handle-outcome.result in
    let handled = c.handle-outcome.ensures.handled in
    let more = sym (zip_more c.args.arrivals.now i a c.loop-arrival.outcomes.items c.push.new.self.items r (omega arith) c.arrival-item.is (omega (arith, c.loop-arrival.outcomes.ok.0, c.loop-arrival.invariant.count))
    (let worked : c.push.result ≡ Ok c.unwrap.result = c.unwrap.ensures in rw worked at c.push.ensures.items)) in
    record {
      runs = subst (λ (s : List Served). Runs (state c.args.store.now) (state c.handle-outcome.new.store) s) more
          (runs_more c.same_contents_answer_alike.ensures (state c.args.store.now) (state c.loop-arrival.store) (state c.handle-outcome.new.store) so_far (arrived a) r (g.met.S.JobStore.sound c.args.store.now) (g.met.S.JobStore.sound c.loop-arrival.store) c.loop-arrival.invariant.runs handled c.handle-outcome.ensures.faults);
      next = subst (λ (s : List Served). IsHonest (state c.handle-outcome.new.store) → (k : Contents) → (state c.args.store.now).holds k → AreNext k s) more
          (next_more (state c.args.store.now) (state c.loop-arrival.store) (state c.handle-outcome.new.store) so_far (arrived a) r (g.met.S.JobStore.sound c.loop-arrival.store) c.loop-arrival.invariant.runs handled.doubts c.loop-arrival.invariant.next);
      count = grind (arith, common_steps);
      room = grind (arith, common_steps);
    }
