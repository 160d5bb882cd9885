-- A drill with a list store.
use Rattle.std.specs.Prelude.{ℕ, List, Option, Result, ⊤}
use Rattle.job_facts.specs.Contents.{no_contents}
use Rattle.list_store.specs.Lists.{state}
use Rattle.list_store.specs.declared.store.ListStore.{ListStore}
use Rattle.text_io.specs.declared.stop.RunStop.{RunStop}
use Rattle.drill.specs.declared.stop.DrillFault.{DrillFault}
use Rattle.drill.specs.Ends.{DrillsOver}

-- the lines of the script `known` are run with a list store that is empty at first
abbrev pub DrillEnds : Option (List ℕ) → Option (List ℕ) → Option (List ℕ) → Result (Unit {0}) (RunStop DrillFault) → Type 0
DrillEnds known before after result = (s : ListStore) × (state s).holds no_contents × DrillsOver state (λ lists. ⊤) s known before after result
