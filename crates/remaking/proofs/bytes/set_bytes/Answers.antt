use Rattle.remaking.specs.Rows.{with_bytes}
use Rattle.remaking.proofs.Several.{all_moved}
use Rattle.remaking.proofs.bytes.set_bytes.Goals as goal

pub returns-clause-wrote : goal.returns-clause-wrote
returns-clause-wrote g c clean = all_moved with_bytes c.args.batches.now _ _ c.run_each.result (c.run_each.ensures.made clean)

pub returns-clause-no_trace : goal.returns-clause-no_trace
returns-clause-no_trace g c = record {
  same_reference = c.run_each.ensures.same_reference;
  survives = c.run_each.ensures.survives;
  cause = c.run_each.ensures.cause tt;
}
