use Rattle.std.proofs.Common.{Result, sym, subst}
use Rattle.job_facts.specs.declared.store.StoreFault.{StoreFault}
use Rattle.job_facts.specs.Contents.{Entry}
use Rattle.job_facts.specs.Kept.{kept_reply}
use Rattle.job_facts.specs.Store.{Commits, with_fault}
use Rattle.reply_store.specs.declared.deciding.Effect.{Effect}
use Rattle.reply_store.specs.Effects.{IsOwedBy, after_effect}
use Rattle.reply_store.proofs.settling.put.Goals as goal

pub returns-in-Changes-clause-commits : goal.returns-in-Changes-clause-commits
returns-in-Changes-clause-commits g c =
    let state = g.S.JobStore.state in
    let entry : Entry = kept_reply c.args.entry.now in
    let by : Effect → Result (Unit {0}) StoreFault → Type 0 = λ e r. Commits (state c.args.store.now) (state c.commit.new.self) r entry (IsOwedBy e entry) (after_effect e entry) in
    subst (by c.args.effect.now) (sym c.fault_in.ensures)
    (subst (λ (e : Effect). by e (with_fault c.commit.result)) (sym c.in-Changes.is) c.commit.ensures.all_or_nothing)

pub returns-in-Marks-clause-commits : goal.returns-in-Marks-clause-commits
returns-in-Marks-clause-commits g c =
    let state = g.S.JobStore.state in
    let entry : Entry = kept_reply c.args.entry.now in
    let by : Effect → Result (Unit {0}) StoreFault → Type 0 = λ e r. Commits (state c.args.store.now) (state c.release.new.self) r entry (IsOwedBy e entry) (after_effect e entry) in
    subst (by c.args.effect.now) (sym c.fault_in-in-Marks.ensures)
    (subst (λ (e : Effect). by e (with_fault c.release.result)) (sym c.in-Marks.is) c.release.ensures.all_or_nothing)
