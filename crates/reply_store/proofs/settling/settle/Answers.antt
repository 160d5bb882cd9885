use Rattle.std.proofs.Common.{◌∙◌, ℕ, List, Result, Ok, subst}
use Rattle.job_facts.specs.declared.store.StoreFault.{StoreFault}
use Rattle.job_facts.specs.Contents.{Entry}
use Rattle.job_facts.specs.Store.{Commits}
use Rattle.arrivals.specs.HttpReplies.{body_of, status_of}
use Rattle.reply_store.specs.Effects.{IsOwedBy, after_effect}
use Rattle.reply_store.specs.Runs.{arrived}
use Rattle.reply_store.proofs.settling.settle.Goals as goal

pub returns-clause-commits : goal.returns-clause-commits
returns-clause-commits g c =
    let state = g.S.JobStore.state in
    let effect = c.args.effect.now in
    let a = arrived c.args.arrival.now in
    let entry : List ℕ → ℕ → List ℕ → Entry = λ ask status body. record { client = a.client; number = a.number; ask = ask; status = status; body = body } in
    let by : Result (Unit {0}) StoreFault → List ℕ → ℕ → List ℕ → Type 0 =
    λ r ask status body. Commits (state c.args.store.now) (state c.put.new.store) r (entry ask status body) (IsOwedBy effect (entry ask status body)) (after_effect effect (entry ask status body)) in
    subst (λ ask. by (Ok tt) ask (status_of c.args.reply.now) (body_of c.args.reply.now)) c.as_slice.ensures
    (subst (λ status. by (Ok tt) c.as_slice.result.now status (body_of c.args.reply.now)) c.in_ok-kept.ensures.status
    (subst (λ body. by (Ok tt) c.as_slice.result.now c.in_ok-kept.kept.status body) (c.as_slice-2.ensures ∙ c.in_ok-kept.ensures.body)
    (subst (λ r. by r c.as_slice.result.now c.in_ok-kept.kept.status c.as_slice-2.result.now) c.in_ok-put.was c.put.ensures.commits)))
