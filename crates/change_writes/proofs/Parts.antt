-- Parts of a transaction, one after the other.
use Rattle.std.proofs.Common.{◌∙◌, List, Result, Ok, Err}
use Rattle.std.specs.Result.{IsErr}
use Rattle.sqlite.specs.Effect.{Database}
use Rattle.sqlite.specs.State.{KeepsCommit, State}
use Rattle.sqlite.specs.declared.error.Error.{Error}
use Rattle.sqlite.proofs.InsideLemmas.{keeps_then}
use Rattle.sql_base.specs.Ends.{Inside, Wrote}
use Rattle.sql_rows.specs.Image.{Moves}
use Rattle.sql_tables.specs.Each.{Each, WroteEach}
use Rattle.table_rows.specs.Tables.{Tables}
use Rattle.sql_rows.specs.Many.{GoesOn, WroteMany}

pub many : {X : Type 0} (R : Database → Database → Type 0) (a b : State) (r : Result X Error) → Wrote R a b r → WroteMany R a b r
many R a b (Ok x) it = record { well = record { made = it.well.made; committed = it.well.committed; inside = λ _. it.well.inside }; kept = it.kept }
many R a b (Err e) it = record { well = tt; kept = it.kept }

-- an error in one of the parts
pub failed_many : {X : Type 0} (R : Database → Database → Type 0) (a b : State) (r : Result X Error) → IsErr r → KeepsCommit a b → WroteMany R a b r
failed_many R a b (Ok x) is kept = absurd (cc)
failed_many R a b (Err e) is kept = record { well = tt; kept = kept }

-- many rows after many rows
pub many_after : {X : Type 0} (P Q R : Database → Database → Type 0) (a b c : State) (r : Result X Error) → (P a.now b.now → Q b.now c.now → R a.now c.now) → GoesOn P a b → KeepsCommit a b → WroteMany Q b c r → WroteMany R a c r
many_after P Q R a b c (Ok x) both one kept two = record {
  well = record { made = both one.made two.well.made; committed = two.well.committed ∙ one.committed; inside = λ inside. two.well.inside (one.inside inside) };
  kept = keeps_then a b c kept two.kept;
}
many_after P Q R a b c (Err e) both one kept two = record { well = tt; kept = keeps_then a b c kept two.kept }

-- many rows after a part that succeeded inside a transaction
inside_on : (P Q R : Database → Database → Type 0) (a b c : State) → (P a.now b.now → Q b.now c.now → R a.now c.now) → Inside P a b → GoesOn Q b c → Inside R a c
inside_on P Q R a b c both one two = record { made = both one.made two.made; committed = two.committed ∙ one.committed; inside = two.inside one.inside; was_open = one.was_open }

pub wrote_on : {X : Type 0} (P Q R : Database → Database → Type 0) (a b c : State) (r : Result X Error) → (P a.now b.now → Q b.now c.now → R a.now c.now) → Inside P a b → KeepsCommit a b → WroteMany Q b c r
    → Wrote R a c r
wrote_on P Q R a b c (Ok x) both one kept two = record { well = inside_on P Q R a b c both one two.well; kept = keeps_then a b c kept two.kept }
wrote_on P Q R a b c (Err e) both one kept two = record { well = tt; kept = keeps_then a b c kept two.kept }

-- a single row after many rows
pub many_then : {X : Type 0} (P Q R : Database → Database → Type 0) (a b c : State) (r : Result X Error) → (P a.now b.now → Q b.now c.now → R a.now c.now) → GoesOn P a b → KeepsCommit a b → Wrote Q b c r
    → Wrote R a c r
many_then P Q R a b c (Ok x) both one kept two = record {
  well = record { made = both one.made two.well.made; committed = two.well.committed ∙ one.committed; inside = two.well.inside; was_open = kept.was_open two.well.was_open };
  kept = keeps_then a b c kept two.kept;
}
many_then P Q R a b c (Err e) both one kept two = record { well = tt; kept = keeps_then a b c kept two.kept }

-- the statements of rows, one after the other
pub ran_each : {X Y : Type 0} (R : X → Database → Database → Type 0) (Q : Database → Database → Type 0) (xs : List X) (a b : State) (r : Result Y Error) → (Each R xs a.now b.now → Q a.now b.now) → WroteEach R xs a b r → WroteMany Q a b r
ran_each R Q xs a b (Ok y) all it = record { well = record { made = all it.well.made; committed = it.well.committed; inside = it.well.goes_on }; kept = it.kept }
ran_each R Q xs a b (Err e) all it = record { well = tt; kept = it.kept }

-- two changes of the rows, one after the other
module _ (f g : Tables → Tables) (a b c : Database) where
  pub moved_on : Moves f a b → Moves g b c → Moves (λ t. g (f t)) a c
  moved_on first more t image = more (f t) (first t image)
