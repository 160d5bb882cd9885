-- The contents that a connection to a database represents.
use Rattle.std.specs.Prelude.{◌≡◌, ◌⊎◌, ℕ, IsTrue, Option, None, Some, Result, Ok, Err}
use Rattle.sqlite.specs.Effect.{Database, IsDatabase}
use Rattle.sqlite.specs.State as sqlite
use Rattle.sqlite.specs.Tree.{Trees}
use Rattle.sqlite.specs.declared.error.Error.{Error}
use Rattle.sqlite_trees.specs.View.{doubt}
use Rattle.job_facts.specs.declared.failed.Failed.{Failed}
use Rattle.job_facts.specs.declared.store.StoreFault.{StoreFault}
use Rattle.job_facts.specs.Contents.{AreSound, Contents, no_contents}
use Rattle.job_facts.specs.Store.{State}
use Rattle.image_laws.specs.Image.{image}
use Rattle.sql_base.specs.Columns.{no_schema}
use Rattle.sql_rows.specs.Image.{IsImage}
use Rattle.sql_tables.specs.declared.versions.Version.{Version}
use Rattle.table_reads.specs.Holding.{HoldsRows}
use Rattle.adoption.specs.Faults.{fault_for}

-- The database has the contents `c`: it contains their rows in the tables of some schema version
-- and in any order, or it is empty and `c` is `no_contents`.
abbrev pub Has : Database → Contents → Type 0
Has db c = ((v : Version) × HoldsRows v (image c) db) ⊎ ((db.schema ≡ no_schema) × (c ≡ no_contents))

-- A database with the contents `c` has exactly the trees `trees`, whose catalog lists its schema.
pub record HasAt (trees : Trees) (c : Contents) : Type 0 where
  pub db : Database
  pub is_database : IsDatabase db
  pub stands : db.trees ≡ trees
  pub has : Has db c

-- An open of `trees` finds these sound contents, or is refused if the first argument is `None`.
abbrev pub FindsAtOpen : Option Contents → Trees → Type 0
FindsAtOpen None trees = (c : Contents) → AreSound c → ¬ HasAt trees c
FindsAtOpen (Some c) trees = AreSound c × HasAt trees c

-- The state of a store whose connection is in the state `s`. If a fault has closed the connection,
-- the store represents any sound contents. The two counts are the store's own. It keeps no request
-- log.
abbrev pub link : sqlite.State → ℕ → ℕ → State
link s failed full = record {
  holds = λ c. AreSound c × (IsTrue s.is_open → IsImage (image c) s.now);
  doubts = doubt s.is_clean;
  failed = failed;
  full = full;
  may_leave = λ d. (trees : Trees) × s.may_leave trees × FindsAtOpen d trees;
  log = λ l. ⊥;
}

-- A success is returned unchanged, and an error is returned as its fault.
abbrev pub IsTranslated : {T : Type 0} → Result T Error → Result T StoreFault → Type 0
IsTranslated (Ok answer) translated = translated ≡ Ok answer
IsTranslated (Err error) translated = translated ≡ Err (fault_for error)

-- A success is returned unchanged, and an error is returned as its fault, with the same `undone`.
abbrev pub IsTranslatedCommit : Result (Unit {0}) (Failed Error) → Result (Unit {0}) (Failed StoreFault) → Type 0
IsTranslatedCommit (Ok answer) translated = translated ≡ Ok answer
IsTranslatedCommit (Err failed) translated = translated ≡ Err (record { fault = fault_for failed.fault; undone = failed.undone })
