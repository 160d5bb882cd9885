-- Defines the two rows of a fault of a record (this project's profile).
use Rattle.std.specs.Prelude.{◌==◌, ◌&&◌, ℕ, Bool, true, false, not, List, [], ◌∷◌, ◌++◌, map, filter, bytes_eq, Option, Some, None, if◌then◌else◌}
use Rattle.std.specs.List.{enumerate_from, find}
use Rattle.store_data.specs.Faults.{same_marks, summaries_fault}
use Rattle.store_data.specs.declared.faults.PlanFault.{PlanFault}
use Rattle.store_data.specs.declared.faults.PlanFault.TheVariants as plan
use Rattle.store_data.specs.declared.faults.Summary.{Summary}
use Rattle.store_data.specs.declared.row.Product.{Product}
use Rattle.store_data.specs.declared.row.Row.{Row}
use Rattle.batch_import.specs.Batch.{coming_of}
use Rattle.batch_import.specs.Outlines.{numbered_summary}
use Rattle.batch_import.specs.declared.fault.Kind.{Kind}
use Rattle.batch_import.specs.declared.fault.Kind.TheVariants as kind
use Rattle.import_causes.specs.Causes.{Numbered}

-- ---- the rows of a record

-- the rows with the record name `name`, with their numbers and in summary; the number of the first
-- data row is 2
abbrev pub rows_named : List ℕ → List Row → List Numbered
rows_named name rows = map numbered_summary (filter (λ (e : ℕ × Row). bytes_eq e.1.rec name) (enumerate_from 2 rows))

-- the rows `kept` of the record `name` after one more row of the file, `row` with number `number`
abbrev pub with_named : List ℕ → List Numbered → ℕ → Row → List Numbered
with_named name kept number row = if bytes_eq row.rec name then kept ++ numbered_summary (number, row) ∷ [] else kept

-- ---- a row that completes a fault, and the earlier row

abbrev pub same_application : Summary → Summary → Bool
same_application one other = bytes_eq one.aid other.aid

-- fault 21: the rows of a record have the same rank in an application, and differ in `enc` or `tol`
abbrev pub differ : Summary → Summary → Bool
differ one other = same_application one other && (one.rank == other.rank) && not (same_marks one other)

-- fault 22: the rows of a record have the same identifier in an application
abbrev pub repeat : Summary → Summary → Bool
repeat one other = same_application one other && (one.identifier == other.identifier)

-- the rows `one` and `other` of a record have the fault; for fault 23, they are in the same
-- application
abbrev pub clash : PlanFault → Summary → Summary → Bool
clash plan.MarksDiffer one other = differ one other
clash plan.IdentifierTwice one other = repeat one other
clash plan.TooManyBlocks one other = same_application one other
clash plan.Memory one other = false

abbrev pub is_too_many : Option PlanFault → Bool
is_too_many (Some plan.TooManyBlocks) = true
is_too_many _ = false

-- fault 23: an application of the record with the rows `rows` needs more than 256 STORE DATA
-- commands, and the record has no lower fault; `m` is the product's `max`
abbrev pub overflow : ℕ → List Numbered → Bool
overflow m rows = is_too_many (summaries_fault m (map (λ (e : Numbered). e.1) rows))

-- the first of the rows `before` of a record with which the next row, `row`, has the fault; for
-- fault 23, the first row of its application if the rows up to it need too many commands
abbrev pub partner : PlanFault → ℕ → List Numbered → Numbered → Option Numbered
partner plan.MarksDiffer m before row = find (λ (e : Numbered). clash plan.MarksDiffer e.1 row.1) before
partner plan.IdentifierTwice m before row = find (λ (e : Numbered). clash plan.IdentifierTwice e.1 row.1) before
partner plan.TooManyBlocks m before row =
    if overflow m (before ++ row ∷ []) then find (λ (e : Numbered). clash plan.TooManyBlocks e.1 row.1) (before ++ row ∷ []) else None
partner plan.Memory m before row = None

abbrev pub pair_or : Option Numbered → Numbered → Option (Numbered × Numbered) → Option (Numbered × Numbered)
pair_or (Some first) row more = Some (first, row)
pair_or None row more = more

-- the first of the rows `rows` of a record that has the fault with an earlier row, and the first
-- such row; the rows `before` precede them
unfoldable pub first_pair : PlanFault → ℕ → List Numbered → List Numbered → Option (Numbered × Numbered)
first_pair fault m before [] = None
first_pair fault m before (row ∷ more) = pair_or (partner fault m before row) row (first_pair fault m (before ++ row ∷ []) more)

-- the fault of a record for a fault of a batch, if it is one
abbrev pub record_fault : Kind → Option PlanFault
record_fault kind.MarksDiffer = Some plan.MarksDiffer
record_fault kind.IdentifierTwice = Some plan.IdentifierTwice
record_fault kind.TooManyBlocks = Some plan.TooManyBlocks
record_fault _ = None

abbrev pub pair_for : Option PlanFault → ℕ → List Numbered → Option (Numbered × Numbered)
pair_for None m rows = None
pair_for (Some fault) m rows = first_pair fault m [] rows

-- the two rows of a fault of the record `name` of the file `raw`: the row that completes the fault,
-- which is the first row up to which the rows of the record have it, and an earlier row
abbrev pub two_rows : List ℕ → Product → Kind → List ℕ → Option (Numbered × Numbered)
two_rows raw p k name = pair_for (record_fault k) p.max (rows_named name (coming_of p.check raw).rows)
