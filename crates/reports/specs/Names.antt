-- Defines the words for states in accounts and reports (this project's profile).
use Rattle.std.specs.Prelude.{ℕ, Bool, true, false, List, codes}
use Rattle.job_facts.specs.declared.facts.RecordState.{RecordState}
use Rattle.job_facts.specs.declared.facts.RecordState.TheVariants.{Waiting, Running, Failed, Withdrawn, Good}

abbrev pub state_name : RecordState → List ℕ
state_name Waiting = codes "waiting"
state_name Running = codes "running"
state_name Failed = codes "failed"
state_name Withdrawn = codes "withdrawn"
state_name Good = codes "good"

abbrev pub closed_name : Bool → List ℕ
closed_name true = codes "closed"
closed_name false = codes "open"
