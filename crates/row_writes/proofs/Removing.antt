-- The effect of each DELETE on the rows.
use Rattle.std.proofs.Common.{ℕ, [], ◌∷◌, map, take, drop, filter, not, List, Ok, refl}
use Rattle.sqlite.specs.declared.types.Value.TheVariants.{Text}
use Rattle.sqlite.specs.Order.{Row}
use Rattle.sqlite.specs.State.{Executes, State}
use Rattle.job_facts.specs.Contents.{Entry, Mark, has_mark}
use Rattle.sql_base.proofs.Selecting.{passes, shown}
use Rattle.sql_base.proofs.Tests.{one_test, same_most, same_text, two_tests}
use Rattle.sql_tables.specs.Tables.{mark_table, reply_table}
use Rattle.table_rows.specs.Tables.{is_released, without_mark, without_replies}
use Rattle.sql_rows.specs.Encoding.{mark_row, number, reply_row}
use Rattle.sql_rows.specs.Image.{Moves, filled, unnumbered}
use Rattle.sql_rows.proofs.Changing.{unnumbered_gone}
use Rattle.sql_rows.proofs.Filling.{refilled}
use Rattle.row_writes.specs.Changes.{by_client_up_to, by_first_column, drop_mark_text, drop_replies_text, rowid_column}
use Rattle.row_writes.proofs.ChangeMeanings.{changes_mean, deletes}

module _ (client : List ℕ) where
  module _ (upto : ℕ) where
    abbrev pub drop_replies_values : Row
    drop_replies_values = Text client ∷ number upto ∷ []

    pub replies_dropped : (old new : State) (count : ℕ) → Executes drop_replies_text drop_replies_values old new (Ok count) → Moves (without_replies client upto) old.now new.now
    replies_dropped old new count ran t image =
        let it = deletes drop_replies_text drop_replies_values 10 reply_table by_client_up_to rowid_column changes_mean.drop_replies refl old new image.ours count ran in
        let left = filter (λ (e : Entry). not (is_released client upto e)) t.replies in
        let moves = unnumbered_gone reply_table reply_row (passes by_client_up_to drop_replies_values) (shown rowid_column drop_replies_values) (is_released client upto) (λ r n is. is)
        (λ e. two_tests (same_text e.client client) (same_most e.number upto)) (λ v r. refl) t.replies old new it in
        refilled (take 10 (filled t)) (drop 11 (filled t)) reply_table refl refl t (without_replies client upto t) old new
        (unnumbered reply_table (map reply_row t.replies)) (unnumbered reply_table (map reply_row left)) refl refl refl refl it.kept it.is_database it.others moves image

  abbrev pub drop_mark_values : Row
  drop_mark_values = Text client ∷ []

  pub mark_dropped : (old new : State) (count : ℕ) → Executes drop_mark_text drop_mark_values old new (Ok count) → Moves (without_mark client) old.now new.now
  mark_dropped old new count ran t image =
      let it = deletes drop_mark_text drop_mark_values 11 mark_table by_first_column rowid_column changes_mean.drop_mark refl old new image.ours count ran in
      let left = filter (λ (m : Mark). not (has_mark client m)) t.marks in
      let moves = unnumbered_gone mark_table mark_row (passes by_first_column drop_mark_values) (shown rowid_column drop_mark_values) (has_mark client) (λ r n is. is)
      (λ m. one_test (same_text m.client client)) (λ v r. refl) t.marks old new it in
      refilled (take 11 (filled t)) (drop 12 (filled t)) mark_table refl refl t (without_mark client t) old new
      (unnumbered mark_table (map mark_row t.marks)) (unnumbered mark_table (map mark_row left)) refl refl refl refl it.kept it.is_database it.others moves image
