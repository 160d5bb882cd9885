-- Counts of a product's blanks, by the batches that used them and by their lots.
use Rattle.std.specs.Prelude.{◌≡◌, ℕ, List, filter, count_by, sum_by, bytes_eq}
use Rattle.job_facts.specs.declared.facts.Lot.{Lot}
use Rattle.job_facts.specs.declared.facts.SessionState.{SessionState}
use Rattle.job_facts.specs.declared.facts.SessionState.TheVariants as session
use Rattle.job_facts.specs.Accounts.{blank_totals, count_sessions, lots_of, session_states}
use Rattle.job_facts.specs.Facts.{Batch, Facts}
use Rattle.job_facts.specs.States.{is_in}

-- the batches of the product `p`
abbrev pub batches_of : Facts → List ℕ → List Batch
batches_of f p = filter (λ (b : Batch). bytes_eq b.product p) f.batches

-- the number of sessions with the state `state`, summed over the batches of the product `p`
abbrev pub sessions_by_batch : Facts → List ℕ → SessionState → ℕ
sessions_by_batch f p state = sum_by (λ (b : Batch). count_sessions (session_states f b.name) state) (batches_of f p)

-- the number of discarded blanks in the lot `l`
abbrev pub discarded_in : Facts → Lot → ℕ
discarded_in f l = count_by (λ blank. is_in blank l) f.discarded

-- The totals of the product's blanks are sums over its batches and over its lots.
pub record AreBlankSums (f : Facts) (p : List ℕ) : Type 0 where
  pub good : (blank_totals f p).good ≡ sessions_by_batch f p session.Good
  pub running : (blank_totals f p).running ≡ sessions_by_batch f p session.Running
  pub spoiled : (blank_totals f p).spoiled ≡ sessions_by_batch f p session.Spoiled
  pub discarded : (blank_totals f p).discarded ≡ sum_by (discarded_in f) (lots_of f p)
