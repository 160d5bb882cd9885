-- Lemmas: the cache of a store is empty at first, and it agrees with the database after each read
-- and each commit.
use Rattle.std.proofs.Common.{◌≡◌, All, IfSome, Result, Ok, Err, OnErr, OnOk, sym, subst}
use Rattle.std.proofs.Math.Logic.{∥∥₁_map}
use Rattle.std.proofs.lemmas.List.Elements.{All-nil}
use Rattle.sqlite.specs.Effect.{Database}
use Rattle.sqlite.specs.Held.{Held, state}
use Rattle.sqlite.specs.Store.{Ghosts}
use Rattle.sqlite.specs.State.{HasCleanDisk, State}
use Rattle.job_facts.specs.Contents.{Entry, no_contents}
use Rattle.table_rows.specs.After.{rows_written}
use Rattle.table_rows.specs.Tables.{Tables}
use Rattle.table_rows.specs.declared.writing.Writing.{Writing}
use Rattle.image_laws.specs.Image.{image}
use Rattle.sql_base.specs.Columns.{no_schema}
use Rattle.sql_base.specs.Ends.{Ends, IsKept}
use Rattle.sql_rows.specs.Image.{IsImage, Moves}
use Rattle.sql_tables.specs.Opening.{MakesAll}
use Rattle.row_reads.specs.Reads.{Looks}
use Rattle.store_reads.specs.declared.known.Known.{Known}
use Rattle.store_reads.specs.Fixed.{fixed}
use Rattle.store_reads.specs.Counted.{AreCountersIn}
use Rattle.store_reads.specs.Known.{HasKnown, IsAllKnownIn, IsKnownIn, Knows, KnowsNothing, IsStandingIn}
use Rattle.store_reads.proofs.Knowing.{knows_after}
use Rattle.schema.proofs.Founding.{founded}

-- ---- a commit

module _ (w : Writing) (entry : Entry) (old new : State) (before after : Known) (knows : Knows old before) (early : HasCleanDisk new → HasCleanDisk old) where
  -- the commit succeeds
  pub knows_made : ((t : Tables) → IsAllKnownIn t before → IsAllKnownIn (rows_written w entry t) after) → (HasCleanDisk new → Ends (Moves (rows_written w entry)) old new) → Knows new after
  knows_made moves ok clean live =
      let k = ok clean in
      record { rows = ∥∥₁_map (knows (early clean) k.was_open).rows (λ it. (rows_written w entry it.0, k.made it.0 it.1, moves it.0 it.2)) }

  -- the commit fails
  pub knows_unmade : ((t : Tables) → IsAllKnownIn t before → IsAllKnownIn t after) → (HasCleanDisk new → IsKept old new) → Knows new after
  knows_unmade stays err clean live =
      let k = err clean in
      record { rows = ∥∥₁_map (knows (early clean) (k.was_open live)).rows (λ it. (it.0, subst (IsImage it.0) (sym (k.now_is live)) it.1, stays it.0 it.2)) }

  pub knows_written : ((t : Tables) → IsAllKnownIn t before → IsAllKnownIn t after) → ((t : Tables) → IsAllKnownIn t before → IsAllKnownIn (rows_written w entry t) after)
      → {X E : Type 0} (r : Result X E) → (HasCleanDisk new → OnOk r (Ends (Moves (rows_written w entry)) old new)) → (HasCleanDisk new → OnErr r (IsKept old new)) → Knows new after
  knows_written stays moves (Ok x) ok err = knows_made moves ok
  knows_written stays moves (Err e) ok err = knows_unmade stays err

-- ---- a new store

none_known : (t : Tables) (known : Known) → KnowsNothing known → IsAllKnownIn t known
none_known t known none = record {
  records = λ apart. subst (All (IsKnownIn (fixed t))) (sym none.records) (All-nil (IsKnownIn (fixed t)));
  standing = λ apart. subst (λ o. IfSome o (IsStandingIn t)) (sym none.standing) tt;
  counted = subst (All (AreCountersIn t)) (sym none.counted) (All-nil (AreCountersIn t));
}

has_none : (t : Tables) (db : Database) (known : Known) → KnowsNothing known → IsImage t db → HasKnown db known
has_none t db known none is = record { rows = ∣ (t, is, none_known t known none) ∣₁ }

pub knows_created : (old new : State) (known : Known) → KnowsNothing known → old.now.schema ≡ no_schema → (HasCleanDisk new → Ends MakesAll old new) → Knows new known
knows_created old new known none empty made clean live = has_none (image no_contents) new.now known none (founded old.now new.now empty (made clean).made)

-- ---- a read

pub knows_still : {S : Type 0} (g : Ghosts S) (old new : Held S) (known : Known) → Looks (state g old) (state g new) → Knows (state g old) known → Knows (state g new) known
knows_still g old new known = knows_after (state g old) (state g new) known
