use Rattle.sqlite.specs.Held.{state}
use Rattle.job_facts.specs.Contents.{Entry, IsOwedRelease, released}
use Rattle.job_facts.specs.Kept.{kept_reply}
use Rattle.job_facts.proofs.NextContents.{sound_released}
use Rattle.schema.proofs.Link.{translated_commits, translated_undone}
use Rattle.schema.proofs.store.SqlStoreJobStore.release.Goals as goal

pub returns-clause-all_or_nothing : goal.returns-clause-all_or_nothing
returns-clause-all_or_nothing g c =
    let entry : Entry = kept_reply c.args.entry.now in
    translated_commits c.same_rows_same_contents.ensures entry (IsOwedRelease c.args.mark entry) (λ d. released d c.args.mark entry) (λ d sound owed. sound_released d entry sound c.args.mark owed)
    (state g.S.Store c.args.self.now.conn) (state g.S.Store c.release-answer.new.conn) _ _ _ _ c.release-answer.ensures.crash c.release-answer.result c.translated_commit.result c.translated_commit.ensures.value c.release-answer.ensures.ok c.release-answer.ensures.err

pub returns-clause-undone : goal.returns-clause-undone
returns-clause-undone g c =
    let old = c.args.self.now in
    let counts = c.translated_commit.new.self in
    translated_undone (state g.S.Store old.conn) (state g.S.Store c.release-answer.new.conn) old.counts.failed old.counts.full counts.failed counts.full c.release-answer.result c.translated_commit.result c.translated_commit.ensures.value c.release-answer.ensures.undone
