-- Lemmas: a database that SQLite opens, or fails to open, in two files whose WAL was examined
-- before.
use Rattle.std.proofs.Common.{◌≡◌, ◌⊎◌, ◌∙◌, ◌↔◌, ◌<◌, ap₂, cond, inl, inr, refl, subst, ℕ, Bool, true, false, IsTrue, List, length, Option, Some, None}
use Rattle.std.proofs.lemmas.Bool.{and_from, and_parts}
use Rattle.sqlite.specs.Files.{Finds, file_state, image_of}
use Rattle.sqlite.specs.Held.{Held}
use Rattle.sqlite.specs.Recovery.{Image}
use Rattle.sqlite.specs.Start.{FindsIn}
use Rattle.sqlite.specs.State.{HasCleanDisk}
use Rattle.sqlite.specs.WalReads.{AreClean, IsClean, OnlyReads}
use Rattle.sqlite.specs.declared.FileStore.{FileStore}
use Rattle.sqlite_disk.specs.Disk.{MoreFaults}
use Rattle.sqlite_disk.specs.Events.{Event, replay}
use Rattle.sqlite_disk.specs.declared.Disk.{Ghosts}
use Rattle.sqlite_disk.specs.declared.Files.{Files}
use Rattle.sqlite.specs.declared.file.Leftover.{Leftover}
use Rattle.sqlite.specs.Opening.{is_open_error}
use Rattle.sqlite.specs.declared.error.Error.{Error}
use Rattle.job_facts.specs.Store.{State}
use Rattle.job_facts.specs.declared.store.StoreFault.{StoreFault}
use Rattle.wal_damage.specs.Damage.{lost_commits}
use Rattle.wal_damage.specs.declared.look.LookFault.{LookFault}
use Rattle.wal_damage.specs.declared.look.LookFault.TheVariants.{Failed, Memory as OutOfMemory}
use Rattle.over_tables.specs.declared.fault.FileFault.{FileFault}
use Rattle.over_tables.specs.declared.fault.FileFault.TheVariants.{Memory, Storage}
use Rattle.over_tables.specs.declared.opening.Wanted.{Wanted}
use Rattle.store_files.specs.Files.{MayHaveCommits, RunsOver}
use Rattle.store_files.specs.declared.file.FileState.{FileState}
use Rattle.store_files.specs.Wal.{FailsInGiven, FailsToBegin, IsWholeWal, RefusesWal, fault_of, opens_none}

abbrev pub image : List ℕ → List ℕ → Image
image log db = record { log = log; db = db }

-- the bytes that the WAL or the database file shows after the events `history`; without events,
-- these are the bytes that it had
abbrev pub seen : List ℕ → List ℕ → Bool → List Event → List ℕ
seen log db is_log history = (replay (cond is_log log db) history).seen

-- Files that were only read show the same bytes as before.
pub same_image : {D : Type 0} (g : Ghosts D) (first given : Files D) → OnlyReads g first.log given.log → OnlyReads g first.db given.db → image_of g given ≡ image_of g first
same_image g first given log db = ap₂ image log.seen db.seen

pub found_in : {D : Type 0} {g : Ghosts D} (given : Files D) (conn : Held (FileStore D g)) (held : Image) → image_of g given ≡ held → Finds given conn → FindsIn held (file_state conn)
found_in given conn held same found = subst (λ i. FindsIn i (file_state conn)) same (record { holds = found.holds; reads = found.reads })

-- SQLite opens no database in files that were only read after they were opened.
pub fails_in : {D : Type 0} (g : Ghosts D) (IsFresh : Bool → D → Type 0) (first given : Files D) → IsFresh true first.log × IsFresh false first.db → OnlyReads g first.log given.log × OnlyReads g first.db given.db
    → (error : Error) (left : Option (Leftover D g)) → IsTrue (is_open_error error) → (left ≡ None → IsTrue (opens_none error)) → FailsInGiven given error left → FailsToBegin g IsFresh error left
fails_in g IsFresh first given fresh read error None named none some = record { named = named; none = none; some = tt }
fails_in g IsFresh first given fresh read error (Some left) named none some = record {
  named = named;
  none = none;
  some = record { first = first; fresh = fresh; given = given; read = read; failed = some };
}

-- ---- a WAL that couldn't be examined

-- It is reported as `Storage` only if a call to a file has failed.
pub storage_or_memory : (fault : LookFault) (F : Type 0) → (fault ≡ Failed → F) → ((fault_of fault ≡ Storage) × F) ⊎ (fault_of fault ≡ Memory)
storage_or_memory Failed F cause = inl (refl, cause refl)
storage_or_memory OutOfMemory F cause = inr refl

-- `mid` are the files before the length of the WAL was read, and no call had failed before.
pub unread_length : {D : Type 0} (g : Ghosts D) (old mid new : Files D) → g.faults mid.log ≡ g.faults old.log → (fault : FileFault) → ((fault ≡ Storage) × MoreFaults (g.faults mid.log) (g.faults new.log)) ⊎ (fault ≡ Memory) → RefusesWal g old new fault
unread_length g old mid new same fault (inl it) = inr (inl (it.0, inl (subst (λ (n : ℕ). MoreFaults n (g.faults new.log)) same it.1)))
unread_length g old mid new same fault (inr it) = inr (inr it)

-- ---- files that were read

-- A file that is read twice is only read.
pub reads_on : {D : Type 0} (g : Ghosts D) (a b c : D) → OnlyReads g a b → OnlyReads g b c → OnlyReads g a c
reads_on g a b c one two = record {
  seen = two.seen ∙ one.seen;
  clean = λ clean. one.clean (two.clean clean);
  usable = two.usable;
  key = two.key ∙ one.key;
  rot = two.rot ∙ one.rot;
  crash = λ bytes left. one.crash bytes (two.crash bytes left);
}

pub clean_log : {D : Type 0} (g : Ghosts D) (log db : D) → AreClean g log db → IsClean g log
clean_log g log db clean = (and_parts _ _ clean).0

-- If both files are clean after the WAL was read, they were clean before.
pub clean_before : {D : Type 0} (g : Ghosts D) (log after db : D) → OnlyReads g log after → AreClean g after db → AreClean g log db
clean_before g log after db read clean = and_from _ _ (read.clean (clean_log g after db clean)) (and_parts _ _ clean).1

-- Files that were just opened show the bytes of the image that they had.
pub whole_in : {D : Type 0} (g : Ghosts D) (held : Image) (first examined : Files D) → OnlyReads g first.log examined.log → image_of g first ≡ held → lost_commits (g.seen first.db) (g.seen first.log) ≡ 0 → IsWholeWal held
whole_in g held first examined reads same whole = subst (λ (i : Image). IsWholeWal i) same whole

pub long_in : {D : Type 0} (g : Ghosts D) (held : Image) (first examined : Files D) → OnlyReads g first.log examined.log → image_of g first ≡ held → (has_log : Bool) → IsTrue has_log ↔ (41 < length (g.seen first.log)) → IsTrue has_log ↔ MayHaveCommits held
long_in g held first examined reads same has_log long = subst (λ (i : Image). IsTrue has_log ↔ MayHaveCommits i) same long

-- A task that ran with one statement about the WAL ran with an equivalent statement.
pub runs_with :
    {D Done : Type 0} {g : Ghosts D} (conn : Held (FileStore D g)) (Was Is : Type 0) (wanted : Wanted) (Ran : FileState → State → ((State → Type 0 → (StoreFault → Type 0) → Type 0) → Type 0) → Done → Type 0) (done : Done)
    → (HasCleanDisk (file_state conn) → Was ↔ Is) → RunsOver conn Was wanted Ran done → RunsOver conn Is wanted Ran done
runs_with conn Was Is wanted Ran done same run = record {
  found = run.found;
  store = run.store;
  is_new = run.is_new;
  older = run.older;
  has_log = λ clean. ((λ is. (same clean).0 ((run.has_log clean).0 is)), (λ is. (run.has_log clean).1 ((same clean).1 is)));
  clean = run.clean;
  opened = run.opened;
  ran = run.ran;
}
