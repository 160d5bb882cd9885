-- The two files of a database after it was read.
use Rattle.std.specs.Prelude.{◌≡◌, ◌<◌, ℕ, true, IsTrue, List}
use Rattle.sqlite.specs.FileStore.{faults, files, is_shielded, recovers, view}
use Rattle.sqlite.specs.Files.{HoldsDatabase}
use Rattle.sqlite.specs.Held.{AreDatabases, Held}
use Rattle.sqlite.specs.Recovery.{Image}
use Rattle.sqlite.specs.Tree.{Trees}
use Rattle.sqlite.specs.View.{IsClean, IsQuiet, IsRolledBack}
use Rattle.sqlite.specs.declared.FileStore.{FileStore}
use Rattle.sqlite_disk.specs.Disk.{Only}
use Rattle.sqlite_disk.specs.declared.Disk as disk
use Rattle.sqlite_disk.specs.declared.Files.{Files}
use Rattle.sqlite_disk.specs.declared.Start as start
use Rattle.book_file.specs.declared.guarded.Guarded.{Guarded}

-- The file shows the contents `bytes`, and a crash leaves the same contents.
pub record HoldsStill {D : Type 0} (g : disk.Ghosts D) (bytes : List ℕ) (file : D) : Type 0 where
  pub seen : g.seen file ≡ bytes
  pub left : Only bytes (g.may_leave file)

-- `seen` and every image that a crash may leave hold a database with the trees `trees`.
pub record KeepsDatabase (seen : Image) (MayLeave : Image → Type 0) (trees : Trees) : Type 0 where
  pub read : ∥ HoldsDatabase seen trees ∥₁
  pub left : (image : Image) → MayLeave image → ∥ HoldsDatabase image trees ∥₁

-- `left` are the files of the store of the connection, after its transaction was rolled back.
-- Nothing else was done to them.
pub record IsLeft {D : Type 0} {g : disk.Ghosts D} (conn : Held (FileStore D g)) (left : Files D) : Type 0 where
  pub last : FileStore D g
  pub given : (left.log, left.db) ≡ files last
  pub undone : IsRolledBack (view conn.store) (view last)
  pub quiet : IsQuiet view faults recovers is_shielded conn.store last
  pub numbered : IsClean (view last) → IsTrue (view last).is_numbered
  pub sound : IsClean (view last) → AreDatabases (recovers last)

-- `left` are the files of a connection that was closed like this.
abbrev pub WereClosed : {D : Type 0} → disk.Ghosts D → Files D → Type 0
WereClosed {D} g left = (conn : Held (FileStore D g)) × IsLeft conn left

abbrev pub file_of : {D S : Type 0} {g : disk.Ghosts D} {s : start.Ghosts S} → Guarded D S g s → D
file_of f = f.file

-- the two files without their guard
abbrev pub unguarded : {D S : Type 0} {g : disk.Ghosts D} {s : start.Ghosts S} → Files (Guarded D S g s) → Files D
unguarded files = record { log = file_of files.log; db = file_of files.db }

-- The file is the WAL.
abbrev pub IsLog : {D S : Type 0} {g : disk.Ghosts D} {s : start.Ghosts S} → Guarded D S g s → Type 0
IsLog f = f.is_log ≡ true

-- A write to the file was refused.
abbrev pub WasToBeWritten : {D S : Type 0} {g : disk.Ghosts D} {s : start.Ghosts S} → Guarded D S g s → Type 0
WasToBeWritten f = 0 < f.refused
