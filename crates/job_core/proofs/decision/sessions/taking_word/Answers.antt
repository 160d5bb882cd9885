use Rattle.std.proofs.Common.{◌≡◌, Some, length, arith, ap, sym, subst, ◌∙◌}
use Rattle.job_facts.specs.declared.rows.SessionRow.{SessionRow}
use Rattle.job_facts.specs.Handing.{Hands, Went}
use Rattle.job_facts.specs.States.{plan_for}
use Rattle.job_facts.specs.Store.{IsHonest}
use Rattle.store_data.specs.Cursor.{cursor_at}
use Rattle.job_core.proofs.HandingLemmas.{segment_of_plan}
use Rattle.job_facts.proofs.RunningLemmas.{went_next}
use Rattle.job_core.proofs.decision.sessions.taking_word.Goals as goal

pub returns-clause-value : goal.returns-clause-value
returns-clause-value g c = λ honest c' held x plan runs row index.
    let f = c'.facts in
    let own = c.args.row.now in
    let sw = c.args.word.sw in
    let early : IsHonest (g.S.JobStore.state c.segment.new.self) = omega (arith, c.next_command.ensures.leaves.stays.doubts) in
    let still = c.segment.ensures.leaves.stays.contents early c' held in
    let sound = (g.met.S.JobStore.sound c.args.store.now c' held).facts in
    let there : plan_for f own.batch own.rec ≡ Some plan = ap (λ (r : SessionRow). plan_for f r.batch r.rec) row ∙ runs.plan_is in
    let at : cursor_at plan (length x.words) ≡ Some own.cursor = runs.cursor ∙ ap (λ (r : SessionRow). Some r.cursor) (sym row) in
    let segment = c.in_ok-segment.ensures.value early c' held ∙ segment_of_plan f own.batch own.rec plan own.cursor.app own.cursor.segment there in
    let went = c.after_word-next.ensures plan (length x.words) runs.is at runs.before segment in
    let hands = c.in_ok-command.ensures.value honest c' still plan (length x.words) there runs.is (c.in_ok-segment.ensures.value early c' held) (went_next plan (length x.words) sw c.after_word-next.result went) in
    c.took_word.ensures f x plan sound runs row index
    (subst (λ n. Went plan n sw c.after_word-next.result) (sym index) went)
    (subst (λ n. Hands plan n c.after_word-next.result c.in_ok-command.command) (sym index) hands)
