use Rattle.sqlite.specs.Held.{state}
use Rattle.sql_tables.specs.Opening.{Makes, MakesVersion}
use Rattle.sql_tables.specs.Texts.{texts_of}
use Rattle.sql_tables.proofs.Defined.{some_texts, version_made}
use Rattle.sql_tables.proofs.EachLemmas.{all_wrote}
use Rattle.sql_tables.proofs.opening.make_version.Goals as goal

pub returns-clause-made : goal.returns-clause-made
returns-clause-made g c clean =
    let v = c.args.version in
    let a = state g.S.Store c.args.tx.now.conn.now in
    let b = state g.S.Store c.run_both.new.tx.conn.now in
    all_wrote (λ text. text.now) Makes (MakesVersion v) (texts_of v) _ a b c.run_both.result c.texts_of.ensures (some_texts v) (version_made v a.now b.now) (c.run_both.ensures.made clean)

pub returns-clause-no_trace : goal.returns-clause-no_trace
returns-clause-no_trace g c = record {
  same_reference = c.run_both.ensures.same_reference;
  survives = c.run_both.ensures.survives;
  cause = c.run_both.ensures.cause tt;
}
