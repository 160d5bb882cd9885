-- The words for the causes of refusal 81, in messages and event lines (this project's profile).
use Rattle.std.specs.Prelude.{ℕ, List, codes, Option, None, Some}
use Rattle.examination.specs.Words as tables
use Rattle.over_tables.specs.declared.cause.Cause.{Cause}
use Rattle.over_tables.specs.declared.cause.Cause.TheVariants.{NoFile, NoFolder, Folder, Special, NoRight, Journal, InUse, NotSqlite, Invalid, Corrupt, CannotOpen, DamagedWal, Tables}

abbrev pub word_of : Cause → List ℕ
word_of NoFile = codes "no-file"
word_of NoFolder = codes "no-folder"
word_of Folder = codes "folder"
word_of Special = codes "special-file"
word_of NoRight = codes "no-right"
word_of Journal = codes "journal"
word_of InUse = codes "in-use"
word_of NotSqlite = codes "not-sqlite"
word_of Invalid = codes "invalid-database"
word_of Corrupt = codes "corrupt"
word_of CannotOpen = codes "cannot-open"
word_of (DamagedWal commits) = codes "damaged-wal"
word_of (Tables difference) = tables.word_of difference

-- the name of the table, index or view that differs
abbrev pub name_in : Cause → Option (List ℕ)
name_in (Tables difference) = tables.name_in difference
name_in _ = None

-- the number of durable commits after the damage of a WAL
abbrev pub commits_in : Cause → Option ℕ
commits_in (DamagedWal commits) = Some commits
commits_in _ = None
