-- The effect of `with_store` on the database file at a path: its task ran over the store, or the
-- fault says why it didn't.
use Rattle.std.specs.Prelude.{◌≡◌, ◌⊎◌, ◌↔◌, ◌<◌, Bool, true, false, IsTrue, Option, Result, length}
use Rattle.std.specs.declared.alloc.AllocError.{AllocError}
use Rattle.sqlite.specs.FileStore.{view}
use Rattle.sqlite.specs.Files.{IsBlankAs, IsOpened, file_state, image_of, over_files}
use Rattle.sqlite.specs.Held.{Held}
use Rattle.sqlite.specs.Recovery.{Image}
use Rattle.sqlite.specs.Start.{FindsIn}
use Rattle.sqlite.specs.State.{HasCleanDisk}
use Rattle.sqlite.specs.declared.FileStore.{FileStore}
use Rattle.sqlite.specs.declared.error.Error.{Error}
use Rattle.sqlite.specs.declared.file.Leftover.{Leftover}
use Rattle.sqlite_disk.specs.declared.Disk.{Ghosts}
use Rattle.sqlite_disk.specs.declared.Files.{Files}
use Rattle.job_facts.specs.Store.{State}
use Rattle.job_facts.specs.declared.store.StoreFault.{StoreFault}
use Rattle.schema.specs.Stores.{connection, stands_for}
use Rattle.schema.specs.declared.store.SqlStore.{SqlStore}
use Rattle.over_tables.specs.Opens as tables
use Rattle.over_tables.specs.Refusals.{IsRefused}
use Rattle.over_tables.specs.declared.fault.FileFault.{FileFault}
use Rattle.over_tables.specs.declared.opening.Wanted.{Wanted}
use Rattle.over_tables.specs.declared.opening.Wanted.TheVariants.{Ours}
use Rattle.store_files.specs.Ending.{AtEnd}
use Rattle.store_files.specs.Unopened.{absent, of_opening}
use Rattle.store_files.specs.Wal.{FailsToBegin, IsWholeWal, RefusesWal}
use Rattle.store_files.specs.declared.file.FileState.{FileState}
use Rattle.store_files.specs.declared.place.Place.{Place}

-- Only an existing store may be opened, and the fault says that the file doesn't exist.
abbrev pub IsAbsent : Wanted → FileFault → Type 0
IsAbsent wanted fault = (wanted ≡ Ours) × ((place : Place) × (fault ≡ absent place))

-- The WAL is longer than after an ordinary exit (41 bytes), so it may have commits.
abbrev pub MayHaveCommits : Image → Type 0
MayHaveCommits image = 41 < length image.log

module _ {D : Type 0} {g : Ghosts D} where
  -- A task ran over the store that was opened from the connection `conn`, with the result `done`.
  -- `HasLog` says that the WAL was longer than after an ordinary exit. `Ran` is the relation of the
  -- task between the state in which the file was found, the state of the store, the end, and the
  -- result.
  pub record RunsOver {Done : Type 0} (conn : Held (FileStore D g)) (HasLog : Type 0) (wanted : Wanted) (Ran : FileState → State → ((State → Type 0 → (StoreFault → Type 0) → Type 0) → Type 0) → Done → Type 0) (done : Done) : Type 0 where
    pub found : FileState
    pub store : SqlStore (FileStore D g) over_files
    pub is_new : IsTrue found.is_new ↔ tables.Begins wanted (file_state conn).now
    pub older : tables.IsOlder (file_state conn).now found.older
    pub has_log : HasCleanDisk (file_state conn) → IsTrue found.has_log ↔ HasLog
    pub clean : HasCleanDisk (file_state (connection store)) → HasCleanDisk (file_state conn)
    pub opened : HasCleanDisk (file_state (connection store)) → tables.IsOpened wanted (file_state conn).now (stands_for over_files store)
    pub ran : Ran found (stands_for over_files store) (AtEnd g) done

  -- The database of the connection is refused with this fault.
  abbrev pub IsTurnedDown : Held (FileStore D g) → Wanted → FileFault → Type 0
  IsTurnedDown conn wanted fault = (left : Held (FileStore D g)) × IsRefused wanted (file_state conn) (file_state left) fault

module _ {D : Type 0} (g : Ghosts D) where
  -- If the files had no database, the new one has no page checksums.
  abbrev pub IsPlainIfNew : Image → Held (FileStore D g) → Type 0
  IsPlainIfNew image conn = IsBlankAs false image → (view conn.store).has_sums ≡ false

  -- `P` is true of a connection. If its disk has returned what was written, the connection found
  -- the database of the files, or a new one without page checksums, and the WAL wasn't damaged.
  abbrev pub OverFiles : Image → (Held (FileStore D g) → Type 0) → Type 0
  OverFiles image P =
      (conn : Held (FileStore D g))
      × (HasCleanDisk (file_state conn) → IsOpened conn × FindsIn image (file_state conn) × IsPlainIfNew image conn × IsWholeWal image)
      × P conn

  -- SQLite doesn't open the files, and `fault` is the fault for its error. `left` is what remains
  -- of the files that were opened, or `None` if none were. An allocation that fails before SQLite
  -- is called is also an error without files.
  pub record IsUnopened (IsFresh : Bool → D → Type 0) (fault : FileFault) : Type 0 where
    pub error : Error
    pub left : Option (Leftover D g)
    pub place : Result Place AllocError
    pub cause : fault ≡ of_opening error place
    pub failed : FailsToBegin g IsFresh error left

  -- Two files with the bytes `image` were opened. Their WAL is damaged, or it couldn't be examined.
  -- SQLite wasn't called with the files.
  pub record IsDamaged (image : Image) (IsFresh : Bool → D → Type 0) (fault : FileFault) : Type 0 where
    pub first : Files D
    pub fresh : IsFresh true first.log × IsFresh false first.db
    pub bytes : image_of g first ≡ image
    pub last : Files D
    pub refused : RefusesWal g first last fault

  -- The fault says why no database is opened.
  abbrev pub IsNotBegun : Image → (Bool → D → Type 0) → FileFault → Type 0
  IsNotBegun image IsFresh fault = IsUnopened IsFresh fault ⊎ IsDamaged image IsFresh fault

  -- The fault says why no task ran.
  abbrev pub IsNotTaken : Image → (Bool → D → Type 0) → Wanted → FileFault → Type 0
  IsNotTaken image IsFresh wanted fault =
      IsAbsent wanted fault ⊎ (IsNotBegun image IsFresh fault ⊎ OverFiles image (λ conn. IsTurnedDown conn wanted fault))
