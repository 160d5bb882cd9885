-- The connection of a store over SQLite, and the state of this store.
use Rattle.sqlite.specs.Held.{Held, state}
use Rattle.sqlite.specs.Store.{Ghosts}
use Rattle.job_facts.specs.Store.{State}
use Rattle.schema.specs.declared.store.SqlStore.{SqlStore}
use Rattle.schema.specs.Link.{link}

abbrev pub connection : {S : Type 0} {g : Ghosts S} → SqlStore S g → Held S
connection store = store.conn

abbrev pub stands_for : {S : Type 0} (g : Ghosts S) → SqlStore S g → State
stands_for g store = link (state g store.conn) store.counts.failed store.counts.full
