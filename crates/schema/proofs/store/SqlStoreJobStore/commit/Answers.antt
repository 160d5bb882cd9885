use Rattle.sqlite.specs.Held.{state}
use Rattle.job_facts.specs.Contents.{Entry, IsOwed, committed}
use Rattle.job_facts.specs.Kept.{kept_reply}
use Rattle.job_facts.proofs.NextContents.{sound_committed}
use Rattle.schema.proofs.Link.{translated_commits, translated_undone}
use Rattle.schema.proofs.store.SqlStoreJobStore.commit.Goals as goal

pub returns-clause-all_or_nothing : goal.returns-clause-all_or_nothing
returns-clause-all_or_nothing g c =
    let entry : Entry = kept_reply c.args.entry.now in
    translated_commits c.same_rows_same_contents.ensures entry (IsOwed c.args.change.now entry) (λ d. committed d c.args.change.now entry) (λ d sound owed. sound_committed d entry sound c.args.change.now owed)
    (state g.S.Store c.args.self.now.conn) (state g.S.Store c.keep-answer.new.conn) _ _ _ _ c.keep-answer.ensures.crash c.keep-answer.result c.translated_commit.result c.translated_commit.ensures.value c.keep-answer.ensures.ok c.keep-answer.ensures.err

pub returns-clause-undone : goal.returns-clause-undone
returns-clause-undone g c =
    let old = c.args.self.now in
    let counts = c.translated_commit.new.self in
    translated_undone (state g.S.Store old.conn) (state g.S.Store c.keep-answer.new.conn) old.counts.failed old.counts.full counts.failed counts.full c.keep-answer.result c.translated_commit.result c.translated_commit.ensures.value c.keep-answer.ensures.undone
