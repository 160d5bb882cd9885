use Rattle.step_laws.proofs.BlankSums.{blank_sums, blanks_by_batch}
use Rattle.step_laws.proofs.sums.blanks_by_batches.Goals as goal

pub returns : goal.returns
returns c = record {
  states = λ f p state sound. blanks_by_batch f p sound state;
  totals = blank_sums;
}
