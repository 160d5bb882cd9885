use Rattle.remaking.proofs.Several.{all_moved}
use Rattle.remaking.proofs.putting.put_all.Goals as goal

pub returns-clause-wrote : goal.returns-clause-wrote
returns-clause-wrote g c clean = all_moved g.T.Put.with_row c.args.rows.now _ _ c.run_each.result (c.run_each.ensures.made clean)

pub returns-clause-no_trace : goal.returns-clause-no_trace
returns-clause-no_trace g c = record {
  same_reference = c.run_each.ensures.same_reference;
  survives = c.run_each.ensures.survives;
  cause = c.run_each.ensures.cause tt;
}
