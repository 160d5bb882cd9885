-- The rows after a session is ended.
use Rattle.std.proofs.Common.{◌≡◌, ℕ, ◌+◌, false, List, refl, sym, subst}
use Rattle.job_facts.specs.declared.change.Change.TheVariants as change
use Rattle.job_facts.specs.declared.facts.RecordState.TheVariants as rec
use Rattle.job_facts.specs.declared.facts.SessionState.TheVariants as session
use Rattle.job_facts.specs.Contents.{Contents}
use Rattle.job_facts.specs.Facts.{Facts, Session, ended, with_end}
use Rattle.job_facts.specs.Sound.{IsSound, IsSoundChange, changed}
use Rattle.job_facts.specs.States.{is_record, record_state, session_state}
use Rattle.step_laws.specs.Records.{StandsSame}
use Rattle.step_laws.proofs.ChangeStands.{record_of_there, touched_stands, touched_stood}
use Rattle.step_laws.proofs.RecordStands.{named}
use Rattle.table_rows.specs.After.{rows_after}
use Rattle.table_rows.specs.Tables.{HaveSameRows}
use Rattle.table_rows.specs.declared.writing.Writing.TheVariants as writing
use Rattle.table_rows.specs.declared.writing.RecordPlace.{RecordPlace}
use Rattle.image_laws.specs.WritingOf.{IsPlaceOfSession}
use Rattle.image_laws.specs.Image.{image}
use Rattle.image_laws.proofs.Lists.{unmoved}
use Rattle.image_laws.proofs.OneRecord.{batches_set, records_set}
use Rattle.image_laws.proofs.OneSession.{blanks_same, sessions_elsewhere}
use Rattle.image_laws.proofs.SessionRows.{ended_set, words_stay}
use Rattle.image_laws.proofs.Stopping.{other_records, own_place, spoiled_more, totals_spoiled}
use Rattle.image_laws.proofs.Touching.{groupings_stay, lots_stay, place_of, remakes_stay}

ended_stands : (f : Facts) (x : Session) → session_state f (ended x) ≡ session.Spoiled
unfolding session_state
ended_stands f x = refl

pub rows_after_end : (c : Contents) (s : ℕ) (p : RecordPlace) → IsSound c.facts → IsSoundChange c.facts (change.Ends s) → IsPlaceOfSession c.facts s p
    → HaveSameRows (image (record c { facts = changed c.facts (change.Ends s) })) (rows_after (writing.Ends s p) (image c))
rows_after_end c s p sound keeps is =
    let f : Facts = c.facts in
    let x : Session = keeps.before.1.0 in
    let there = keeps.before.1.1 in
    let runs = keeps.before.1.2 in
    let end = change.Ends s in
    let g : Facts = with_end f s in
    let stands = ended_stands f x in
    let beside : (d q : List ℕ) → is_record d q (named x.batch x.rec) ≡ false → StandsSame f g d q = other_records f s x there end refl sound keeps.before in
    let ran : record_state f x.batch x.rec ≡ rec.Running = touched_stood f end sound keeps.before (named x.batch x.rec) rec.Running (record_of_there f s x there) refl in
    let now : record_state g x.batch x.rec ≡ rec.Failed = touched_stands f end sound keeps.before keeps.after (named x.batch x.rec) rec.Failed (record_of_there f s x there) refl in
    let totals = totals_spoiled f s x ended there refl refl runs sound beside ran stands now in
    let spoiled = spoiled_more f s x ended there refl refl runs stands in
    let at : RecordPlace = place_of f x.batch x.rec in
    subst (λ q. HaveSameRows (image (record c { facts = g })) (rows_after (writing.Ends s q) (image c))) (sym (own_place f s x there p is))
    (record {
      products = unmoved _ _ refl;
      lots = unmoved _ _ (lots_stay f f.remakes f.withdrawn g.sessions);
      batches = unmoved _ _ (batches_set f g.sessions f.remakes f.withdrawn x.batch x.rec sound beside (sessions_elsewhere f s x ended there refl refl) _ totals);
      records = unmoved _ _ (records_set f g.sessions f.remakes f.withdrawn x.batch x.rec sound beside rec.Failed (at.spoiled + 1) at.remakes now spoiled refl);
      groupings = unmoved _ _ (groupings_stay f f.remakes f.withdrawn g.sessions);
      sessions = unmoved _ _ (ended_set f s x there stands);
      words = unmoved _ _ (words_stay f s x ended there refl);
      blanks = unmoved _ _ (blanks_same f s x ended there refl refl refl);
      remakes = unmoved _ _ (remakes_stay f f.remakes f.withdrawn g.sessions refl);
      replies = unmoved _ _ refl;
      marks = unmoved _ _ refl;
    })
