-- Several reads, one after the other, and their result for all tables.
use Rattle.std.proofs.Common.{ℕ, Bool, List, map, Option, Some, None, MatchOption, All, subst, arith}
use Rattle.std.specs.Prelude.{option_map, option_and_then}
use Rattle.sqlite.specs.Effect.{Database}
use Rattle.sqlite.specs.Order.{Row}
use Rattle.sqlite.specs.State.{HasCleanDisk, State, Survives}
use Rattle.sqlite.specs.Table.{Table}
use Rattle.sql_base.specs.Ends.{IsKept}
use Rattle.sql_rows.specs.Image.{given_rows}
use Rattle.sql_tables.specs.Finds.{Finds}
use Rattle.table_reads.specs.Whole.{NoneFit}
use Rattle.table_reads.specs.Holding.{Holds}
use Rattle.table_reads.specs.Reading.{HasAll, HasWhole, Reads}
use Rattle.table_reads.specs.declared.reads.TableRows.{TableRows}

-- ---- states

pub early : (old new : State) → Survives old new (λ _. ⊥) → HasCleanDisk new → HasCleanDisk old
early old new survives clean = omega (arith, survives.clean)

-- ---- the results

-- the result for one table
pub found_as : {X : Type 0} (encode : X → Row) (fits : X → Type 0) (table : ℕ → Table) (by_rowid : Bool) (db : Database) (Refused : Type 0)
    → (((xs : List X) → All fits xs → Holds table by_rowid (map encode xs) db → ⊥) → Refused) → (found : Option (TableRows X))
    → ((tree : ℕ) → Finds db.schema (table tree) → MatchOption found (NoneFit encode fits (given_rows by_rowid (db.trees tree))) (HasAll encode by_rowid (db.trees tree)))
    → MatchOption found Refused (HasWhole table by_rowid encode db)
found_as encode fits table by_rowid db Refused refuses (Some all) h = h
found_as encode fits table by_rowid db Refused refuses None h = refuses (λ xs fit held. h held.number held.finds xs fit held.rows_are)

-- the same result, for the database at the start of all reads
pub carried : {F : Type 0} (R : Database → Type 0) (P : Database → F → Type 0) (old mid : State) → IsKept old mid → (found : Option F) → Reads R P mid found → MatchOption found (R old.now) (P old.now)
carried R P old mid kept (Some all) read = subst (λ db. P db all) (kept.now_is read.0) read.1
carried R P old mid kept None read = subst R (kept.now_is read.0) read.1

-- the next result, if the previous one was found
pub then_found : {A B : Type 0} (R : Type 0) (P : A → Type 0) (Q : B → Type 0) (f : A → Option B) (o : Option A) → MatchOption o R P → ((x : A) → P x → MatchOption (f x) R Q) → MatchOption (option_and_then f o) R Q
then_found R P Q f (Some x) found next = next x found
then_found R P Q f None lacks next = lacks

pub last_found : {A B : Type 0} (R : Type 0) (P : A → Type 0) (Q : B → Type 0) (f : A → B) (o : Option A) → MatchOption o R P → ((x : A) → P x → Q (f x)) → MatchOption (option_map f o) R Q
last_found R P Q f (Some x) found next = next x found
last_found R P Q f None lacks next = lacks
