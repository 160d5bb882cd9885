-- A drill over the tables of a database in memory.
use Rattle.std.specs.Prelude.{◌≡◌, ◌⊎◌, ℕ, IsTrue, List, Option, Result, Err}
use Rattle.std.specs.Io.KnownBytes.{Keeps}
use Rattle.sqlite.specs.Held.{state}
use Rattle.sqlite.specs.Steps.{over_memory}
use Rattle.sqlite_trees.specs.declared.memory.MemStore.{MemStore}
use Rattle.job_facts.specs.Contents.{no_contents}
use Rattle.job_facts.specs.Store.{IsHonest}
use Rattle.job_facts.specs.declared.store.StoreFault.{StoreFault}
use Rattle.schema.specs.Stores.{connection, stands_for}
use Rattle.schema.specs.declared.store.SqlStore.{SqlStore}
use Rattle.text_io.specs.declared.stop.RunStop.{RunStop}
use Rattle.drill.specs.declared.stop.DrillFault.{DrillFault}
use Rattle.drill.specs.Ends.{DrillsOver, unopened}

-- No store could be created and nothing is written, or a store that is empty at first runs the
-- script.
abbrev pub DrillEnds : Option (List ℕ) → Option (List ℕ) → Option (List ℕ) → Result (Unit {0}) (RunStop DrillFault) → Type 0
DrillEnds known before after result =
    ((fault : StoreFault) × (result ≡ Err (unopened fault)) × Keeps before after)
    ⊎ ((s : SqlStore MemStore over_memory) × (IsHonest (stands_for over_memory s) → (stands_for over_memory s).holds no_contents)
    × DrillsOver (stands_for over_memory) (λ store. IsTrue (state over_memory (connection store)).is_open) s known before after result)
