-- Lemmas about the numbers of rows and records of a batch, from the part of its row that was read.
use Rattle.std.proofs.Common.{◌≡◌, ℕ, List, length, Option, Some, None, refl, sym}
use Rattle.std.specs.Prelude.{filter, option_map}
use Rattle.std.proofs.lemmas.Option.{none-some, same_Some}
use Rattle.job_facts.specs.declared.rows.BatchSize.{BatchSize}
use Rattle.row_reads.specs.declared.batches.BatchHead.{BatchHead}
use Rattle.row_reads.specs.RowValues.{head_of}
use Rattle.table_rows.specs.Keys.{is_grouping_of}
use Rattle.table_rows.specs.Tables.{StoredBatch, StoredGrouping}
use Rattle.row_laws.specs.RowValues.{size_of}

pub no_size : (groupings : List StoredGrouping) (o : Option StoredBatch) → None ≡ option_map head_of o → None ≡ option_map (size_of groupings) o
no_size groupings None none = refl
no_size groupings (Some b) none = absurd (none-some (head_of b) none)

pub size_read : (groupings : List StoredGrouping) (o : Option StoredBatch) (h : BatchHead) (rows : ℕ) → Some h ≡ option_map head_of o → rows ≡ length (filter (is_grouping_of h.id) groupings)
    → Some (let size : BatchSize = record { rows = rows; records = h.totals.records } in size) ≡ option_map (size_of groupings) o
size_read groupings None h rows is counted = absurd (none-some h (sym is))
size_read groupings (Some b) h rows is counted = let same : h ≡ head_of b = same_Some h (head_of b) is in rw (counted, same) refl
