-- The contents that runs of a server leave in the two files of a database, and that the next run
-- finds there. The type of the files differs from run to run, but their bytes are lists of numbers,
-- so these statements join two runs by the bytes.
use Rattle.std.specs.Prelude.{◌≡◌, ◌⊎◌, List, [], ◌∷◌, ◌++◌, IsTrue, Option}
use Rattle.sqlite.specs.FileStore as files
use Rattle.sqlite.specs.Files.{AreFoundIn, HoldsDatabase, IsClosed, IsOpened, file_state, over_files}
use Rattle.sqlite.specs.Held.{Held}
use Rattle.sqlite.specs.Recovery.{Image}
use Rattle.sqlite.specs.Start.{FindsIn}
use Rattle.sqlite.specs.Tree.{Trees}
use Rattle.sqlite.specs.View.{IsClean}
use Rattle.sqlite.specs.WalFiles.{outcomes}
use Rattle.sqlite.specs.WalReads.{AreClean}
use Rattle.sqlite.specs.declared.FileStore.{FileStore}
use Rattle.sqlite_disk.specs.declared.Disk.{Ghosts}
use Rattle.job_facts.specs.Contents.{AreSound, Contents}
use Rattle.job_facts.specs.Store.{IsFound}
use Rattle.reply_store.specs.Runs.{Tried}
use Rattle.server.specs.Exchanges.{Exchange, ServesAll, tries}
use Rattle.schema.specs.Closing.{LeavesWholeFile}
use Rattle.schema.specs.Link.{FindsAtOpen}
use Rattle.schema.specs.Stores.{connection, stands_for}
use Rattle.schema.specs.declared.store.SqlStore.{SqlStore}
use Rattle.over_tables.specs.Opens.{IsOpened as Opens, IsOpenedWith}
use Rattle.over_tables.specs.Refusals.{IsRefused}
use Rattle.over_tables.specs.declared.fault.FileFault.{FileFault}
use Rattle.over_tables.specs.declared.opening.Wanted.{Wanted}
use Rattle.file_runs.specs.Runs.{IsAfterRuns, StartsAfterRuns}

-- An open of two files with the bytes `image` finds the trees `trees`.
pub record FindsTrees (image : Image) (trees : Trees) : Type 0 where
  pub holds : (db : Trees) → HoldsDatabase image db → trees ≡ db
  pub reads : AreFoundIn image trees

-- An open of two files with the bytes `image` isn't refused, and finds contents that are possible
-- after the runs `runs`. The first run began with the contents `c`.
abbrev pub HoldRuns : Image → Contents → List (List Tried) → Type 0
HoldRuns image c runs = (trees : Trees) → FindsTrees image trees → (d : Option Contents) → FindsAtOpen d trees → ∥ ((e : Contents) × IsAfterRuns c runs e × IsFound d e) ∥₁

module _ {D : Type 0} {g : Ghosts D} where
  -- A crash leaves `image` of the files of the connection. `last` is what remains of the connection
  -- after its transaction was rolled back, whether or not its WAL was copied. The toolchain states
  -- `closed` for each way to close a connection, but `numbered` only for `into_store`.
  pub record IsLeftByCrash (conn : Held (FileStore D g)) (image : Image) : Type 0 where
    pub last : FileStore D g
    pub closed : IsClosed conn last
    pub clean : IsClean (files.view last)
    pub numbered : IsTrue (files.view last).is_numbered
    pub may_leave : (files.state last).may_leave image

  -- The connection was closed without a fault, and `image` is what its files show then, or what a
  -- crash leaves of them.
  pub record IsLeftByClose (conn : Held (FileStore D g)) (image : Image) : Type 0 where
    pub whole : LeavesWholeFile conn
    pub clean : AreClean g whole.files.log whole.files.db
    pub may_leave : outcomes g whole.files.log whole.files.db image

  abbrev pub IsLeftBy : Held (FileStore D g) → Image → Type 0
  IsLeftBy conn image = IsLeftByCrash conn image ⊎ IsLeftByClose conn image

module _ {D : Type 0} (g : Ghosts D) where
  -- A store that is opened over two files starts with the contents of its database.
  pub record FindRuns : Type 0 where
    -- these are contents after no run
    pub first : (conn : Held (FileStore D g)) (wanted : Wanted) (store : SqlStore (FileStore D g) over_files) (c : Contents)
        → Opens wanted (file_state conn).now (stands_for over_files store) → IsOpenedWith wanted (file_state conn).now c
        → AreSound c × ∥ StartsAfterRuns (stands_for over_files store) c [] ∥₁
    -- they are possible after the runs before, if the two files hold the contents of these runs
    pub later : (image : Image) (conn : Held (FileStore D g)) (wanted : Wanted) (store : SqlStore (FileStore D g) over_files) (c : Contents) (runs : List (List Tried))
        → IsOpened conn → FindsIn image (file_state conn) → Opens wanted (file_state conn).now (stands_for over_files store)
        → HoldRuns image c runs → ∥ StartsAfterRuns (stands_for over_files store) c runs ∥₁

  -- If a store starts with contents that are possible after the runs before, and serves the
  -- connections `es`, then its files hold the contents of all these runs, however it ends.
  abbrev pub LeaveRuns : Type 0
  LeaveRuns = (store last : SqlStore (FileStore D g) over_files) (es : List Exchange) (c : Contents) (runs : List (List Tried)) (image : Image)
      → AreSound c → ∥ StartsAfterRuns (stands_for over_files store) c runs ∥₁ → ServesAll (stands_for over_files store) (stands_for over_files last) es
      → IsLeftBy (connection last) image → HoldRuns image c (runs ++ tries es ∷ [])

  -- If the database is refused, the files still hold the contents of the runs before.
  abbrev pub RefuseRuns : Type 0
  RefuseRuns = (image left : Image) (conn after : Held (FileStore D g)) (wanted : Wanted) (fault : FileFault) (c : Contents) (runs : List (List Tried))
      → IsOpened conn → FindsIn image (file_state conn) → IsRefused wanted (file_state conn) (file_state after) fault
      → HoldRuns image c runs → IsLeftByCrash after left → HoldRuns left c runs
