-- The results of calls that fail only if an allocation fails.
use Rattle.std.specs.Prelude.{◌≡◌, MatchResult, Result}
use Rattle.job_facts.specs.declared.store.StoreFault.{StoreFault}
use Rattle.job_facts.specs.declared.store.StoreFault.TheVariants.{Memory}

-- The result has the property `P`, or an allocation failed.
abbrev pub GivesOrMemory : {T : Type 0} → Result T StoreFault → (T → Type 0) → Type 0
GivesOrMemory result P = MatchResult result P (λ fault. fault ≡ Memory)
