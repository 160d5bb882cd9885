-- Outcomes and accounts that are equal except for the order of sets.
use Rattle.std.specs.Prelude.{◌≡◌, ℕ, List}
use Rattle.job_facts.specs.Accounts.{batch_totals, blank_totals, record_lines}
use Rattle.job_facts.specs.Contents.{AreSameFacts}
use Rattle.job_facts.specs.Facts.{Facts}
use Rattle.job_facts.specs.Steps.{Outcome}

-- The replies are equal, and the facts are equal except for the order of sets.
pub record AreAlike (x y : Outcome) : Type 0 where
  pub reply : x.1 ≡ y.1
  pub facts : AreSameFacts x.0 y.0

-- The accounts of every batch, of its records, and of every product's blanks are equal in `f` and
-- `g`.
pub record HaveSameAccounts (f g : Facts) : Type 0 where
  pub batches : (b : List ℕ) → batch_totals f b ≡ batch_totals g b
  pub records : (b : List ℕ) → record_lines f b ≡ record_lines g b
  pub blanks : (p : List ℕ) → blank_totals f p ≡ blank_totals g p
