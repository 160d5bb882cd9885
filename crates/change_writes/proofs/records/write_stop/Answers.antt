use Rattle.std.proofs.Common.{◌≡◌, rules}
use Rattle.job_facts.specs.declared.facts.RecordState.TheVariants as rec
use Rattle.job_facts.specs.declared.facts.SessionState.TheVariants as session
use Rattle.sql_rows.specs.Image.{Moves}
use Rattle.table_rows.specs.After.{passed, stopped}
use Rattle.change_writes.proofs.Parts.{many}
use Rattle.change_writes.proofs.records.write_stop.Goals as goal

pub returns-in-Good : goal.returns-in-Good
returns-in-Good g c = record {
  wrote = λ clean.
      let is : c.args.stands ≡ session.Good = search rules in
      rw is (many (Moves (passed c.args.place.now rec.Running rec.Good)) _ _ _ (c.write_passed.ensures.wrote clean));
  same_reference = c.write_passed.ensures.same_reference;
  survives = c.write_passed.ensures.survives;
}

pub returns-in-Spoiled : goal.returns-in-Spoiled
returns-in-Spoiled g c = record {
  wrote = λ clean.
      let is : c.args.stands ≡ session.Spoiled = search rules in
      rw is (many (Moves (stopped c.args.place.now session.Spoiled)) _ _ _ (c.write_spoiled.ensures.wrote clean));
  same_reference = c.write_spoiled.ensures.same_reference;
  survives = c.write_spoiled.ensures.survives;
}
