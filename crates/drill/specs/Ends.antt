-- The output and the end of a drill.
use Rattle.std.specs.Prelude.{◌≡◌, ℕ, ◌+◌, Bool, true, false, List, [], ◌∷◌, ◌++◌, drop, length, codes, Option, None, Some, Result, Ok, Err, ⊤}
use Rattle.std.specs.Fmt.{decimal}
use Rattle.std.specs.List.{flat_map}
use Rattle.std.specs.Io.KnownBytes.{Appends, Keeps}
use Rattle.job_facts.specs.Store.{State}
use Rattle.job_facts.specs.declared.store.StoreFault.{StoreFault}
use Rattle.job_facts.specs.declared.store.StoreFault.TheVariants as fault
use Rattle.text_io.specs.Inputs.{Agrees}
use Rattle.text_io.specs.Written.{AppendsBeginning}
use Rattle.text_io.specs.declared.stop.RunStop.{RunStop}
use Rattle.text_io.specs.declared.stop.RunStop.TheVariants.{Own, Stream}
use Rattle.text_io.specs.declared.stop.StreamFault.TheVariants as stream
use Rattle.text_io.specs.Lines.{lines}
use Rattle.drill.specs.Floors.{Floor, empty_floor}
use Rattle.drill.specs.declared.stop.DrillFault.{DrillFault}
use Rattle.drill.specs.declared.stop.DrillFault.TheVariants.{BadLine, Storage}
use Rattle.job_facts.specs.Reopening.{IsAnew, Reopens}
use Rattle.drill.specs.Steps.{LineEffect, Steps}

-- the effect of a line, the store after it, and the store for the next line
pub record Done (S : Type 0) : Type 0 where
  pub did : LineEffect
  pub served : S
  pub store : S

-- after a crash the store is opened again: it has reported no fault yet, and has the same contents
-- as before, unless a fault had made it unusable
abbrev pub GoesOn : {S : Type 0} → (S → State) → (S → Type 0) → S → S → Bool → Type 0
GoesOn state usable served store true = IsAnew (state store) × (usable served → Reopens (state served) (state store))
GoesOn state usable served store false = store ≡ served

-- the first lines of `ls` had these effects, one after another, and led from the store `s` and the
-- shop floor `fl` to `last` and `floor`; the lines `left` remain
abbrev pub AreDone : {S : Type 0} → (S → State) → (S → Type 0) → S → Floor → List (List ℕ) → List (Done S) → S → Floor → List (List ℕ) → Type 0
AreDone state usable s fl ls [] last floor left = (s ≡ last) × (fl ≡ floor) × (ls ≡ left)
AreDone state usable s fl [] (d ∷ ds) last floor left = ⊥
AreDone state usable s fl (l ∷ behind) (d ∷ ds) last floor left =
    Steps state s d.served fl l behind (Some d.did) × GoesOn state usable d.served d.store d.did.stops
    × AreDone state usable d.store d.did.floor (drop d.did.taken behind) ds last floor left

-- line `n`, counted from 1, is the next one, and it is malformed or names something that doesn't
-- exist
abbrev pub IsBadLine : {S : Type 0} → (S → State) → S → Floor → ℕ → ℕ → List (List ℕ) → Type 0
IsBadLine {S} state s fl count n [] = ⊥
IsBadLine {S} state s fl count n (l ∷ behind) = (after : S) × Steps state s after fl l behind None × (n + length behind ≡ count)

-- the first of these lines had this effect, and the drill ends after it
abbrev pub IsLast : {S : Type 0} → (S → State) → S → Floor → List (List ℕ) → LineEffect → Type 0
IsLast {S} state s fl [] did = ⊥
IsLast {S} state s fl (l ∷ behind) did = (served : S) × Steps state s served fl l behind (Some did)

-- the reason why a drill ends after a line was run: its output wasn't written completely, or the
-- store can't be opened again after a crash
abbrev pub EndsIn : {S : Type 0} → (S → State) → S → Floor → List (List ℕ) → LineEffect → RunStop DrillFault → Type 0
EndsIn state s fl left did (Own (BadLine n)) = ⊥
EndsIn state s fl left did (Stream stream.WriteFailed) = IsLast state s fl left did
EndsIn state s fl left did (Stream stream.Memory) = IsLast state s fl left did × (did.stops ≡ true)
EndsIn state s fl left did (Own Storage) = IsLast state s fl left did × (did.stops ≡ true)
EndsIn state s fl left did (Stream stream.ReadFailed) = ⊥

-- the reason why a drill of `count` lines ends while the lines `left` remain; the first of them may
-- have been run
abbrev pub EndsAt : {S : Type 0} → (S → State) → S → Floor → ℕ → List (List ℕ) → Option LineEffect → Result (Unit {0}) (RunStop DrillFault) → Type 0
EndsAt state s fl count left None (Ok u) = left ≡ []
EndsAt state s fl count left None (Err (Own (BadLine n))) = IsBadLine state s fl count n left
EndsAt state s fl count left None (Err (Stream stream.WriteFailed)) = ⊤
EndsAt state s fl count left None (Err (Stream stream.Memory)) = ⊤
EndsAt state s fl count left None (Err (Own Storage)) = ⊥
EndsAt state s fl count left None (Err (Stream stream.ReadFailed)) = ⊥
EndsAt state s fl count left (Some did) (Ok u) = ⊥
EndsAt state s fl count left (Some did) (Err why) = EndsIn state s fl left did why

-- `text` was written, or only a prefix of it if the writer failed
abbrev pub IsWritten : Option (List ℕ) → Option (List ℕ) → List ℕ → Result (Unit {0}) (RunStop DrillFault) → Type 0
IsWritten before after text (Err (Stream stream.WriteFailed)) = AppendsBeginning before after text
IsWritten before after text (Ok u) = Appends before after text
IsWritten before after text (Err (Own own)) = Appends before after text
IsWritten before after text (Err (Stream stream.Memory)) = Appends before after text
IsWritten before after text (Err (Stream stream.ReadFailed)) = ⊥

abbrev pub printed : {S : Type 0} → List (Done S) → Option LineEffect → List ℕ
printed ds None = flat_map (λ d. d.did.text) ds
printed ds (Some last) = flat_map (λ d. d.did.text) ds ++ last.text

-- the run of the lines `ls`, the last ones of a script of `count` lines, from the store `s` and the
-- shop floor `fl`
pub record Runs {S : Type 0} (state : S → State) (usable : S → Type 0) (s : S) (fl : Floor) (count : ℕ) (ls : List (List ℕ)) (before after : Option (List ℕ)) (result : Result (Unit {0}) (RunStop DrillFault)) : Type 0 where
  pub did : List (Done S)
  pub last : S
  pub floor : Floor
  pub left : List (List ℕ)
  pub ended_in : Option LineEffect
  pub done : AreDone state usable s fl ls did last floor left
  pub ends : EndsAt state last floor count left ended_in result
  pub written : IsWritten before after (printed did ended_in) result

-- the run of all lines of the script `known`, from an empty shop floor
abbrev pub RunsAll : {S : Type 0} → (S → State) → (S → Type 0) → S → Option (List ℕ) → Option (List ℕ) → Option (List ℕ) → Result (Unit {0}) (RunStop DrillFault) → Type 0
RunsAll state usable s known before after result =
    (raw : List ℕ) × Agrees known raw × Runs state usable s empty_floor (length (lines raw)) (lines raw) before after result

-- the run of a script; if the reader failed, nothing was printed
abbrev pub DrillsOver : {S : Type 0} → (S → State) → (S → Type 0) → S → Option (List ℕ) → Option (List ℕ) → Option (List ℕ) → Result (Unit {0}) (RunStop DrillFault) → Type 0
DrillsOver state usable s known before after (Err (Stream stream.ReadFailed)) = Keeps before after
DrillsOver state usable s known before after (Ok u) = RunsAll state usable s known before after (Ok u)
DrillsOver state usable s known before after (Err (Own own)) = RunsAll state usable s known before after (Err (Own own))
DrillsOver state usable s known before after (Err (Stream stream.WriteFailed)) = RunsAll state usable s known before after (Err (Stream stream.WriteFailed))
DrillsOver state usable s known before after (Err (Stream stream.Memory)) = RunsAll state usable s known before after (Err (Stream stream.Memory))

-- the text of a fault
abbrev pub fault_text : DrillFault → List ℕ
fault_text (BadLine n) = codes "bad line " ++ decimal n
fault_text Storage = codes "the store did not open"

-- ---- intermediate results

-- the lines before `left` lead from the store `s` and the shop floor `fl` to `last` and `floor`,
-- and their output was written
abbrev pub Goes : {S : Type 0} → (S → State) → (S → Type 0) → S → Floor → List (List ℕ) → Option (List ℕ) → Option (List ℕ) → S → Floor → List (List ℕ) → Type 0
Goes {S} state usable s fl ls before after last floor left =
    (ds : List (Done S)) × AreDone state usable s fl ls ds last floor left × Appends before after (printed ds None)

-- the reason to stop if the store can't be opened
abbrev pub unopened : StoreFault → RunStop DrillFault
unopened fault.Memory = Stream stream.Memory
unopened fault.Device = Own Storage
unopened fault.Full = Own Storage

abbrev pub IsUnopened : RunStop DrillFault → Type 0
IsUnopened why = (fault : StoreFault) × (why ≡ unopened fault)
