-- The results of `persod plan`.
use Rattle.std.specs.Prelude.{◌≡◌, ◌<◌, ◌≤◌, ⊤, ℕ, List, [], ◌∷◌, length, map, Option, Some, None, Result, Ok, Err}
use Rattle.std.specs.Prelude.{Vec}
use Rattle.std.specs.Global.{Global}
use Rattle.std.specs.Io.KnownBytes.{Appends, Keeps}
use Rattle.event_lines.specs.Notes.{NotesAll}
use Rattle.event_lines.specs.declared.log.EventLog.{EventLog}
use Rattle.batch_import.specs.declared.fault.ImportFault.{ImportFault}
use Rattle.batch_import.specs.declared.fault.ImportFault.TheVariants as fault
use Rattle.store_data.specs.declared.row.Product.{Product}
use Rattle.store_data.specs.declared.row.Row.{Row}
use Rattle.batch_import.specs.Batch.{batch_of}
use Rattle.batch_import.specs.Outlines.{AreBatchRows}
use Rattle.batch_import.specs.SoundRecords.{AreSoundRecords}
use Rattle.store_data.specs.Groups.{grouped}
use Rattle.text_io.specs.Inputs.{most_input}
use Rattle.text_io.specs.Written.{AppendsBeginning}
use Rattle.text_io.specs.declared.stop.RunStop.{RunStop}
use Rattle.text_io.specs.declared.stop.RunStop.TheVariants.{Own, Stream}
use Rattle.text_io.specs.declared.stop.StreamFault.TheVariants.{ReadFailed, WriteFailed, Memory}
use Rattle.import_causes.specs.Explanations.{explanation_of, fault_text}
use Rattle.plan_print.specs.Printed.{printed}
use Rattle.plan_print.specs.declared.plan.BatchFault.{BatchFault}
use Rattle.plan_print.specs.declared.plan.BatchFault.TheVariants.{Refused, TooLarge}

-- for the input `raw`, the commands of its batch were written, or only a prefix of them if the
-- writer failed, or nothing if the input was refused or couldn't be read
abbrev pub PlanEnds : Product → List ℕ → Option (List ℕ) → Option (List ℕ) → Result (Unit {0}) (RunStop BatchFault) → Type 0
PlanEnds p raw before after (Ok u) = (rows : List Row) × (length raw ≤ most_input) × (batch_of p raw ≡ Ok rows) × Appends before after (printed p rows)
PlanEnds p raw before after (Err (Own (Refused fault))) = (length raw ≤ most_input) × (batch_of p raw ≡ Err fault) × Keeps before after
PlanEnds p raw before after (Err (Own TooLarge)) = (most_input < length raw) × Keeps before after
PlanEnds p raw before after (Err (Stream WriteFailed)) = (rows : List Row) × (length raw ≤ most_input) × (batch_of p raw ≡ Ok rows) × AppendsBeginning before after (printed p rows)
PlanEnds p raw before after (Err (Stream ReadFailed)) = Keeps before after
PlanEnds p raw before after (Err (Stream Memory)) = Keeps before after

-- ---- event lines

-- the event lines of a run that stops with `stop`: the cause of the fault of a batch file
abbrev pub stop_lines : Product → List ℕ → RunStop BatchFault → List (List ℕ)
stop_lines p raw (Own (Refused fault)) = fault_text (explanation_of raw p fault) ∷ []
stop_lines p raw (Own TooLarge) = []
stop_lines p raw (Stream fault) = []

abbrev pub plan_lines : Product → List ℕ → Result (Unit {0}) (RunStop BatchFault) → List (List ℕ)
plan_lines p raw (Ok u) = []
plan_lines p raw (Err s) = stop_lines p raw s

-- `PlanEnds`, and the event lines of the run were written to the log, which turned from `old` to
-- `new`
abbrev pub PlanEndsWithEvents : {E : Type 0} → (E → Option (List ℕ)) → Product → List ℕ → Option (List ℕ) → Option (List ℕ)
    → EventLog E → EventLog E → Result (Unit {0}) (RunStop BatchFault) → Type 0
PlanEndsWithEvents contents p raw before after old new r =
    PlanEnds p raw before after r × NotesAll old.level (contents old.writer) (contents new.writer) (plan_lines p raw r)

-- ---- intermediate results

abbrev pub stop_of : ImportFault → RunStop BatchFault
stop_of (fault.At f) = Own (Refused f)
stop_of fault.Memory = Stream Memory

-- an input that has more bytes than allowed is too large
abbrev pub within : Option (Vec ℕ Global) → Result (Vec ℕ Global) (RunStop BatchFault)
within (Some v) = Ok v
within None = Err (Own TooLarge)

-- the whole input was read, or it is too large
abbrev pub ReadsInput : List ℕ → Result (Vec ℕ Global) (RunStop BatchFault) → Type 0
ReadsInput raw (Ok v) = (v.items ≡ raw) × (length raw ≤ most_input)
ReadsInput raw (Err (Own TooLarge)) = most_input < length raw
ReadsInput raw (Err (Stream ReadFailed)) = ⊤
ReadsInput raw (Err (Stream Memory)) = ⊤
ReadsInput raw (Err (Stream WriteFailed)) = ⊥
ReadsInput raw (Err (Own (Refused f))) = ⊥

-- the rows of each record of the batch, or the fault of the batch
abbrev pub GroupsBatch : Product → List ℕ → Result (Vec (Vec Row Global) Global) (RunStop BatchFault) → Type 0
GroupsBatch p raw (Ok records) =
    (rows : List Row) × (batch_of p raw ≡ Ok rows) × AreBatchRows rows × AreSoundRecords p.max rows
    × (map (λ v. v.items) records.items ≡ grouped (λ (row : Row). row.rec) rows)
GroupsBatch p raw (Err (Own (Refused f))) = batch_of p raw ≡ Err f
GroupsBatch p raw (Err (Stream Memory)) = ⊤
GroupsBatch p raw (Err (Own TooLarge)) = ⊥
GroupsBatch p raw (Err (Stream ReadFailed)) = ⊥
GroupsBatch p raw (Err (Stream WriteFailed)) = ⊥
