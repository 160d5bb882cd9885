-- The result of closing the store over files.
use Rattle.std.specs.Prelude.{◌≡◌}
use Rattle.sqlite_disk.specs.declared.Disk.{Ghosts}
use Rattle.sqlite_disk.specs.declared.Files.{Files}
use Rattle.sqlite.specs.Closing.{IsCopied}
use Rattle.sqlite.specs.FileStore as stores
use Rattle.sqlite.specs.Files.{FailsToClose, IsClosed, file_state}
use Rattle.sqlite.specs.Held.{Held}
use Rattle.sqlite.specs.View.{IsClean}
use Rattle.sqlite.specs.WalReads.{AreClean}
use Rattle.sqlite.specs.declared.FileStore.{FileStore}
use Rattle.sqlite.specs.declared.error.Error.{Error}
use Rattle.job_facts.specs.declared.store.StoreFault.{StoreFault}
use Rattle.job_facts.specs.Contents.{Contents}
use Rattle.image_laws.specs.Image.{image}
use Rattle.sql_rows.specs.Image.{IsImage}
use Rattle.schema.specs.Link.{link}
use Rattle.adoption.specs.Faults.{fault_for}

module _ {D : Type 0} {g : Ghosts D} where
  -- The connection was closed, and it returned its two files. If their devices are correct, the
  -- database file alone has the last commit, and the last commit has the rows of the contents.
  pub record LeavesWholeFile (conn : Held (FileStore D g)) : Type 0 where
    pub last : FileStore D g
    pub files : Files D
    pub given : stores.files last ≡ (files.log, files.db)
    pub quiet : IsClosed conn last
    pub copied : AreClean g files.log files.db → IsCopied conn files
    pub rows : AreClean g files.log files.db → (c : Contents) → (link (file_state conn) 0 0).holds c → IsImage (image c) (file_state conn).committed

  -- The connection couldn't be closed, and `fault` is the reason. A crash leaves what it could
  -- leave before.
  pub record FailsToFinish (conn : Held (FileStore D g)) (fault : StoreFault) : Type 0 where
    pub last : FileStore D g
    pub error : Error
    pub quiet : IsClosed conn last
    pub cause : IsClean (stores.view last) → FailsToClose conn last error
    pub is : fault ≡ fault_for error
