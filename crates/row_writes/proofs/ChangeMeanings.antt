-- The meaning of each text that changes or deletes rows.
use Rattle.std.proofs.Common.{◌≡◌, ℕ, List, [], Some, Ok, slice_get, refl}
use Rattle.sqlite.specs.Command.TheVariants.{Delete, Update}
use Rattle.sqlite.specs.Listing.{understood}
use Rattle.sqlite.specs.Order.{Row}
use Rattle.sqlite.specs.State.{Executes, State}
use Rattle.sqlite.specs.Table.{Table}
use Rattle.sqlite.specs.Term.{Term}
use Rattle.sqlite_tied.specs.Compute.{everything}
use Rattle.sql_base.specs.Effects.{Deleted, Updated}
use Rattle.sql_base.specs.Queries.{from_tree}
use Rattle.sql_base.proofs.Editing.{deleted, updated}
use Rattle.sql_base.proofs.Selecting.{passes, shown}
use Rattle.sql_tables.specs.Tables.{our_schema}
use Rattle.sql_tables.proofs.VersionRow.{none_acts}
use Rattle.row_writes.specs.Texts.{by_id, set_session_query, set_session_text}
use Rattle.row_writes.specs.Changes.{by_client_up_to, by_first_column, by_place, by_second_column, drop_mark_text, drop_replies_text, rowid_column, set_closed_columns, set_closed_text, set_end_columns}
use Rattle.row_writes.specs.Changes.{set_end_text, set_lot_columns, set_lot_text, set_raw_columns, set_raw_text, set_record_columns, set_record_text, set_totals_columns, set_totals_text}
use Rattle.row_writes.proofs.Meanings.{Means, read_as}

pub record ChangesMean : Type 0 where
  pub set_lot : Means set_lot_text (Update 2 (record { lets = []; body = from_tree 3 by_first_column set_lot_columns }))
  pub set_totals : Means set_totals_text (Update 3 (record { lets = []; body = from_tree 5 by_id set_totals_columns }))
  pub set_closed : Means set_closed_text (Update 3 (record { lets = []; body = from_tree 5 by_second_column set_closed_columns }))
  pub set_raw : Means set_raw_text (Update 3 (record { lets = []; body = from_tree 5 by_id set_raw_columns }))
  pub set_record : Means set_record_text (Update 4 (record { lets = []; body = from_tree 7 by_place set_record_columns }))
  pub set_session : Means set_session_text (Update 6 (record { lets = []; body = set_session_query }))
  pub set_end : Means set_end_text (Update 6 (record { lets = []; body = from_tree 12 by_id set_end_columns }))
  pub drop_replies : Means drop_replies_text (Delete 10 (record { lets = []; body = from_tree 19 by_client_up_to rowid_column }))
  pub drop_mark : Means drop_mark_text (Delete 11 (record { lets = []; body = from_tree 21 by_first_column rowid_column }))

pub changes_mean : ChangesMean
unfolding understood everything
changes_mean = record { set_lot = refl; set_totals = refl; set_closed = refl; set_raw = refl; set_record = refl; set_session = refl; set_end = refl; drop_replies = refl; drop_mark = refl }

-- the effect of such a statement on its table
module _ (text : List ℕ) (values : Row) (at : ℕ) (table : Table) (filters columns : List Term) where
  pub updates : Means text (Update at (record { lets = []; body = from_tree table.tree filters columns })) → slice_get our_schema.tables at ≡ Some table → (old new : State) → old.now.schema ≡ our_schema → (count : ℕ) → Executes text values old new (Ok count)
      → Updated our_schema table (passes filters values) (shown columns values) old new
  updates means listed old new ours count ran =
      let it = read_as text _ means in
      updated text values old new our_schema ours at table filters columns listed (none_acts table.tree) it.0 it.1 count ran

  pub deletes : Means text (Delete at (record { lets = []; body = from_tree table.tree filters columns })) → slice_get our_schema.tables at ≡ Some table → (old new : State) → old.now.schema ≡ our_schema → (count : ℕ) → Executes text values old new (Ok count)
      → Deleted our_schema table (passes filters values) (shown columns values) old new
  deletes means listed old new ours count ran =
      let it = read_as text _ means in
      deleted text values old new our_schema ours at table filters columns listed (none_acts table.tree) it.0 it.1 count ran
