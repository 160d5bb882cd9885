-- The meaning of each text that inserts rows.
use Rattle.std.proofs.Common.{◌≡◌, List, ℕ, [], ◌∷◌, Option, None, Some, Result, Ok, Err, refl}
use Rattle.sqlite.specs.Command.{Command}
use Rattle.sqlite.specs.Command.TheVariants.{Insert}
use Rattle.sqlite.specs.Source.TheVariants.{Values}
use Rattle.sqlite.specs.Listing.{understood}
use Rattle.sqlite.proofs.Callers.{IsPlain, command_of}
use Rattle.sqlite_resolve.specs.declared.compiled.Compiled.{Compiled}
use Rattle.sqlite_resolve.specs.declared.error.CompileError.{CompileError}
use Rattle.sqlite_schema.specs.declared.command.Returning.{Returning}
use Rattle.sqlite_tied.specs.Compute.{everything}
use Rattle.sql_tables.specs.Tables.{our_schema}
use Rattle.row_writes.specs.BatchTexts.{add_batch_terms, add_batch_text, add_grouping_text, add_groupings_text, add_record_text, add_records_text, rows_terms}
use Rattle.row_writes.specs.Texts.{add_blank_terms, add_blank_text, add_lot_terms, add_lot_text, add_mark_terms, add_mark_text, add_remake_terms, add_remake_text, add_product_terms, add_product_text, add_reply_terms, add_reply_text, add_session_terms, add_session_text, add_word_terms, add_word_text}

abbrev plain_of : Command → Option Returning → List (List ℕ) → Option Command
plain_of command None [] = Some command
plain_of command _ _ = None

-- the command of a text that has no RETURNING and doesn't read the time
abbrev pub plain_in : Result Compiled CompileError → Option Command
plain_in (Ok c) = plain_of c.command c.returning c.formats
plain_in (Err e) = None

-- In the current schema, the text means this command.
abbrev pub Means : List ℕ → Command → Type 0
Means text command = plain_in (understood our_schema text) ≡ Some command

is_plain_of : (command wanted : Command) (returning : Option Returning) (formats : List (List ℕ)) → plain_of command returning formats ≡ Some wanted → (command ≡ wanted) × (returning ≡ None) × (formats ≡ [])
is_plain_of command wanted None [] e = (cc, refl, refl)
is_plain_of command wanted None (f ∷ fs) e = absurd (cc)
is_plain_of command wanted (Some r) fs e = absurd (cc)

is_plain_in : (r : Result Compiled CompileError) (wanted : Command) → plain_in r ≡ Some wanted → (command_of r ≡ wanted) × IsPlain r
is_plain_in (Ok c) wanted e = let it = is_plain_of c.command wanted c.returning c.formats e in (it.0, (it.1, it.2))
is_plain_in (Err error) wanted e = absurd (cc)

pub read_as : (text : List ℕ) (command : Command) → Means text command → (command_of (understood our_schema text) ≡ command) × IsPlain (understood our_schema text)
read_as text = is_plain_in (understood our_schema text)

-- The texts insert one row into each table, or sixteen rows.
pub record AddsMean : Type 0 where
  pub products : Means add_product_text (Insert 1 (Values add_product_terms 5))
  pub lots : Means add_lot_text (Insert 2 (Values add_lot_terms 6))
  pub batches : Means add_batch_text (Insert 3 (Values add_batch_terms 13))
  pub records : Means add_record_text (Insert 4 (Values (rows_terms 6 0 1) 7))
  pub groupings : Means add_grouping_text (Insert 5 (Values (rows_terms 8 0 1) 9))
  pub many_records : Means add_records_text (Insert 4 (Values (rows_terms 6 0 16) 7))
  pub many_groupings : Means add_groupings_text (Insert 5 (Values (rows_terms 8 0 16) 9))
  pub sessions : Means add_session_text (Insert 6 (Values add_session_terms 13))
  pub words : Means add_word_text (Insert 7 (Values add_word_terms 4))
  pub blanks : Means add_blank_text (Insert 8 (Values add_blank_terms 4))
  pub remakes : Means add_remake_text (Insert 9 (Values add_remake_terms 4))
  pub replies : Means add_reply_text (Insert 10 (Values add_reply_terms 6))
  pub marks : Means add_mark_text (Insert 11 (Values add_mark_terms 3))

pub adds_mean : AddsMean
unfolding understood everything
adds_mean = record { products = refl; lots = refl; batches = refl; records = refl; groupings = refl; many_records = refl; many_groupings = refl; sessions = refl; words = refl; blanks = refl; remakes = refl; replies = refl; marks = refl }
