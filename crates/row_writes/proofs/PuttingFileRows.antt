-- The effect of each INSERT of records or rows of a batch file on the rows.
use Rattle.std.proofs.Common.{◌≡◌, ℕ, List, [], ◌∷◌, length, Ok, refl}
use Rattle.std.specs.List.{flat_map}
use Rattle.sqlite.specs.State.{Executes, State}
use Rattle.table_rows.specs.Tables.{StoredGrouping, StoredRecord, with_grouping, with_record}
use Rattle.sql_rows.specs.Encoding.{grouping_row, record_row}
use Rattle.sql_rows.specs.Image.{Moves}
use Rattle.sql_rows.specs.Many.{with_groupings, with_records}
use Rattle.row_writes.specs.BatchTexts.{add_grouping_text, add_groupings_text, add_record_text, add_records_text}
use Rattle.row_writes.proofs.AddingRows.{many_added}
use Rattle.row_writes.proofs.AddingRows as tables
use Rattle.row_writes.proofs.Meanings.{adds_mean}

pub record_added : (x : StoredRecord) (old new : State) (changed : ℕ) → Executes add_record_text (record_row x) old new (Ok changed) → Moves (with_record x) old.now new.now
record_added x = many_added tables.records 6 (λ x. refl) (λ first rest. (refl, refl)) add_record_text 1 refl adds_mean.records (x ∷ []) refl

pub records_added : (xs : List StoredRecord) → length xs ≡ 16 → (old new : State) (changed : ℕ) → Executes add_records_text (flat_map record_row xs) old new (Ok changed) → Moves (with_records xs) old.now new.now
records_added = many_added tables.records 6 (λ x. refl) (λ first rest. (refl, refl)) add_records_text 16 refl adds_mean.many_records

pub grouping_added : (x : StoredGrouping) (old new : State) (changed : ℕ) → Executes add_grouping_text (grouping_row x) old new (Ok changed) → Moves (with_grouping x) old.now new.now
grouping_added x = many_added tables.groupings 8 (λ x. refl) (λ first rest. (refl, refl)) add_grouping_text 1 refl adds_mean.groupings (x ∷ []) refl

pub groupings_added : (xs : List StoredGrouping) → length xs ≡ 16 → (old new : State) (changed : ℕ) → Executes add_groupings_text (flat_map grouping_row xs) old new (Ok changed) → Moves (with_groupings xs) old.now new.now
groupings_added = many_added tables.groupings 8 (λ x. refl) (λ first rest. (refl, refl)) add_groupings_text 16 refl adds_mean.many_groupings
