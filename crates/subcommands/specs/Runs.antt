-- The runs of the subcommands: their input, their output and their end.
use Rattle.std.specs.Prelude.{◌≡◌, ⊤, ℕ, Bool, List, codes, Option, Result}
use Rattle.store_data.specs.declared.row.Product.{Product}
use Rattle.text_io.specs.Inputs.{Agrees}
use Rattle.text_io.specs.declared.stop.RunStop.{RunStop}
use Rattle.plan_print.specs.PlanEnds.{PlanEnds, PlanEndsWithEvents}
use Rattle.plan_print.specs.declared.plan.BatchFault.{BatchFault}
use Rattle.over_tables.specs.Drills.{DrillEnds}
use Rattle.drill.specs.declared.stop.DrillFault.{DrillFault}
use Rattle.feeding.specs.Feeds.{at_first}
use Rattle.event_lines.specs.declared.log.EventLog.{EventLog}
use Rattle.feeding.specs.Events.{FeedEndsWithEvents}
use Rattle.feeding.specs.Tries.{FeedEnds, Try}
use Rattle.feeding.specs.declared.engine.FeedFault.{FeedFault}
use Rattle.subcommands.specs.Ends.{end_of_drill, end_of_feed, end_of_plan}
use Rattle.subcommands.specs.declared.end.End.{End}
use Rattle.subcommands.specs.declared.end.End.TheVariants.{Done, BadLine}
use Rattle.arguments.specs.declared.words.FeedStart.{FeedStart}
use Rattle.arguments.specs.declared.words.Words.{Words}
use Rattle.arguments.specs.declared.words.Words.TheVariants.{Plan, Drill, Serve, Report, Feed}

-- the product with the options of `plan`, which has the name `plan`
abbrev pub product_of : ℕ → ℕ → Bool → Product
product_of max low check = record { code = codes "plan"; max = max; low = low; check = check }

-- a run of `plan` on the input `known` turns the output `before` into `after` and the log `old`
-- into `new`, and ends with `end`
abbrev pub PlanRuns : {E : Type 0} → (E → Option (List ℕ)) → Product → Option (List ℕ) → Option (List ℕ) → Option (List ℕ)
    → EventLog E → EventLog E → End → Type 0
PlanRuns contents p known before after old new end = (raw : List ℕ) × Agrees known raw
    × (ended : Result (Unit {0}) (RunStop BatchFault)) × (end ≡ end_of_plan ended)
    × PlanEndsWithEvents contents p raw before after old new ended

-- a run of `drill` on the input `known` turns the output `before` into `after` and ends with `end`
abbrev pub DrillRuns : Option (List ℕ) → Option (List ℕ) → Option (List ℕ) → End → Type 0
DrillRuns known before after end = (ended : Result (Unit {0}) (RunStop DrillFault))
    × (end ≡ end_of_drill ended) × DrillEnds known before after ended

-- a run of `feed` with the options `start` on the input `known`: its tries extend `log_before` to
-- `log_after`, its output `before` to `after`, its event lines `old` to `new`, and it ends with
-- `end`
abbrev pub FeedRuns : {E : Type 0} → (E → Option (List ℕ)) → FeedStart → Option (List ℕ)
    → Option (List Try) → Option (List Try) → Option (List ℕ) → Option (List ℕ)
    → EventLog E → EventLog E → End → Type 0
FeedRuns contents start known log_before log_after before after old new end =
    (ended : Result (Unit {0}) (RunStop FeedFault)) × (end ≡ end_of_feed ended)
    × FeedEndsWithEvents contents (at_first start.machine start.boot start.batch) known
    log_before log_after before after old new ended

-- a run of `plan` as in `PlanRuns`, without its event lines
abbrev pub Plans : Product → Option (List ℕ) → Option (List ℕ) → Option (List ℕ) → End → Type 0
Plans p known before after end = (raw : List ℕ) × Agrees known raw
    × (ended : Result (Unit {0}) (RunStop BatchFault)) × (end ≡ end_of_plan ended)
    × PlanEnds p raw before after ended

-- a run of `feed` as in `FeedRuns`, without its event lines
abbrev pub Feeds : FeedStart → Option (List ℕ) → Option (List Try) → Option (List Try)
    → Option (List ℕ) → Option (List ℕ) → End → Type 0
Feeds start known log_before log_after before after end =
    (ended : Result (Unit {0}) (RunStop FeedFault)) × (end ≡ end_of_feed ended)
    × FeedEnds (at_first start.machine start.boot start.batch) known
    log_before log_after before after ended

-- a run of the given subcommand, which must be `plan` or `drill`; `drill` leaves the log as it is
abbrev pub Runs : {E : Type 0} → (E → Option (List ℕ)) → Words → Option (List ℕ) → Option (List ℕ) → Option (List ℕ)
    → EventLog E → EventLog E → End → Type 0
Runs contents (Plan max low check) known before after old new end =
    PlanRuns contents (product_of max low check) known before after old new end
Runs contents Drill known before after old new end = DrillRuns known before after end × (new ≡ old)
Runs contents (Serve db port turns) known before after old new end = ⊥
Runs contents (Report db batch) known before after old new end = ⊥
Runs contents (Feed port start) known before after old new end = ⊥

-- the whole text was printed at this end
abbrev pub IsPrinted : End → Type 0
IsPrinted Done = ⊤
IsPrinted (BadLine line) = ⊤
IsPrinted _ = ⊥
