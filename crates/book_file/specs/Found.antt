-- The result of reading and auditing a database.
use Rattle.std.specs.Prelude.{◌≡◌, Err, None, Ok, Option, Result, Some}
use Rattle.sqlite.specs.Effect.{Database}
use Rattle.sqlite.specs.declared.error.Error.{Error}
use Rattle.table_rows.specs.Tables.{Tables}
use Rattle.audit_order.specs.Order.{AreSorted}
use Rattle.audit_rows.specs.Rules.{FailsFirst, rules}
use Rattle.audit_rows.specs.declared.rule.Rule.{Rule}
use Rattle.table_reads.specs.Holding.{HoldsRows}
use Rattle.table_reads.specs.Unread.{without_reply_bytes}
use Rattle.examination.specs.declared.damage.Damage.TheVariants.{UnreadableRow}
use Rattle.examination.specs.declared.finding.Finding.{Finding}
use Rattle.examination.specs.declared.finding.Finding.TheVariants as finding
use Rattle.adoption.specs.Faults.{fault_for}
use Rattle.over_tables.specs.Faults.{of_store}
use Rattle.over_tables.specs.declared.cause.Cause.TheVariants.{Tables as OfTables}
use Rattle.over_tables.specs.declared.fault.FileFault.{FileFault}
use Rattle.over_tables.specs.declared.fault.FileFault.TheVariants.{Damaged, NotOurs}
use Rattle.book_lines.specs.Book.{IsBook}
use Rattle.book_file.specs.declared.book.Book.{Book}

-- The sorted rows are the rows of sound contents, or `rule` is the first audit rule that they
-- break.
abbrev pub HasVerdict : Tables → Option Rule → Type 0
HasVerdict t None = IsBook t
HasVerdict t (Some rule) = FailsFirst rules t rule

-- The database `db` holds the rows `rows`, which are sorted, and `book` has their verdict. It has
-- these rows without the request bytes and bodies of replies.
pub record IsFound (db : Database) (book : Book) : Type 0 where
  pub rows : Tables
  pub held : HoldsRows book.version rows db
  pub sorted : AreSorted rows
  pub verdict : HasVerdict rows book.failing
  pub tables : book.tables ≡ without_reply_bytes rows

-- the book, or the fault that states why the database can't be read
abbrev pub answer_of : Result Finding Error → Result Book FileFault
answer_of (Ok (finding.NotOurs difference)) = Err (NotOurs (OfTables difference))
answer_of (Ok finding.Unreadable) = Err (Damaged UnreadableRow)
answer_of (Ok (finding.Read rows failing)) = Ok (record { version = rows.version; failing = failing; tables = rows.tables; size = None })
answer_of (Err error) = Err (of_store (fault_for error))
