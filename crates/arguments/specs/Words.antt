-- The command line of `persod` (this project's profile), as a command of `clap`, and the meaning of
-- its arguments.
use Rattle.std.specs.Prelude.{◌≡◌, ◌≢◌, ◌≤◌, ◌⊎◌, ⊤, ℕ, Bool, List, [], ◌∷◌, codes}
use Rattle.std.specs.Prelude.{Option, Some, pos, true, false, string_bytes}
use Rattle.std.specs.Str.Parse.{IsNumeral, digits_value, without_leading_plus}
use Rattle.clap.specs.Words.{App, IsAmong, Kinds, Row, Rule, Text, new_app, new_rule}
use Rattle.clap.specs.Words.{first_of, one_of, subcommand_of, with_rule, with_subcommand}
use Rattle.clap.specs.Words.{app_of, fault_of, rule_of}
use Rattle.clap.specs.declared.builder.arg.Arg.{Arg}
use Rattle.clap.specs.declared.builder.command.Command.{Command}
use Rattle.clap.specs.declared.builder.command.Command.TheViews.{out-Command as fields_of}
use Rattle.clap.specs.Values.{bool_text}
use Rattle.clap.specs.declared.builder.action.ArgAction.TheVariants.{SetTrue}
use Rattle.clap.specs.declared.builder.value_parser.ValueParser.{ValueParser}
use Rattle.clap.specs.declared.builder.value_parser.ValueParser.TheVariants.{Signed, Unsigned}
use Rattle.clap.specs.declared.error.kind.ErrorKind.{ErrorKind}
use Rattle.clap.specs.declared.error.kind.ErrorKind.TheVariants.{DisplayHelp, DisplayVersion}
use Rattle.std.specs.declared.io.ErrorKind.{ErrorKind as IoKind}
use Rattle.std.specs.declared.io.ErrorKind.TheVariants as io
use Rattle.store_data.specs.Name.{is_name}
use Rattle.arguments.specs.declared.words.Words.{Words}
use Rattle.arguments.specs.declared.words.Words.TheVariants.{Plan, Drill, Serve, Report, Feed}
use Rattle.arguments.specs.declared.words.ValueFault.{ValueFault}
use Rattle.arguments.specs.declared.words.ValueFault.TheVariants as lacks
use Rattle.arguments.specs.declared.words.WordsFault.{WordsFault}
use Rattle.arguments.specs.declared.words.WordsFault.TheVariants.{Help, Version, Usage}
use Rattle.arguments.specs.declared.words.WordsFault.TheVariants.{NotText, BadName, Memory}

-- ---- the command

-- `c` is the command `app`, and none of its arguments is global
abbrev pub IsCommand : App → Command → Type 0
IsCommand app c = (app_of c ≡ app) × ((fields_of c).has_globals ≡ false)

-- `a` is the argument `rule`, and it isn't global
abbrev pub IsArgument : Rule → Arg → Type 0
IsArgument rule a = (rule_of a ≡ rule) × (a.global ≡ false)

-- the parser of the numbers from `low` to `high`
abbrev pub numbers : ℕ → ℕ → ValueParser
numbers low high = Signed (pos low) (pos high)

-- `--name WORD`
abbrev pub option : Text → Rule
option name = record (new_rule name) { long = Some name; value_names = 1 }

-- `--name WORD`, required if `needed` is `true`
abbrev pub text_rule : Text → Bool → Rule
text_rule name needed = record (option name) { required = needed }

-- `--name N`
abbrev pub number_option : Text → ValueParser → Rule
number_option name parser = record (option name) { parser = Some parser }

-- `--name N`, required
abbrev pub number_needed : Text → ValueParser → Rule
number_needed name parser = record (number_option name parser) { required = true }

-- `--name N`, with a default
abbrev pub number_or : Text → ValueParser → Text → Rule
number_or name parser default = record (number_option name parser) { defaults = default ∷ [] }

-- `--name`, a flag that is off by default
abbrev pub flag : Text → Rule
flag name = record (new_rule name) { long = Some name; action = Some SetTrue }

-- `plan [--max N] [--low N] [--check]`
abbrev pub plan_command : App
plan_command =
    with_rule (with_rule (with_rule (new_app (codes "plan"))
    (number_or (codes "max") (numbers 16 255) (codes "255")))
    (number_or (codes "low") (numbers 0 31) (codes "0")))
    (flag (codes "check"))

-- `drill`, which has no options
abbrev pub drill_command : App
drill_command = new_app (codes "drill")

-- `--port N`, required
abbrev pub port_needed : Rule
port_needed = number_needed (codes "port") (numbers 1 65535)

-- `--boot N`, required
abbrev pub boot_needed : Rule
boot_needed = number_needed (codes "boot") (Unsigned 1 9999999999)

-- `serve --db PATH --port N --turns N`
abbrev pub serve_command : App
serve_command =
    with_rule (with_rule (with_rule (new_app (codes "serve"))
    (text_rule (codes "db") true))
    port_needed)
    (number_needed (codes "turns") (numbers 1 1000000))

-- `report --db PATH --batch NAME`
abbrev pub report_command : App
report_command =
    with_rule (with_rule (new_app (codes "report"))
    (text_rule (codes "db") true))
    (text_rule (codes "batch") true)

-- `feed --port N --machine NAME --boot N --batch NAME`
abbrev pub feed_command : App
feed_command =
    with_rule (with_rule (with_rule (with_rule (new_app (codes "feed"))
    port_needed)
    (text_rule (codes "machine") true))
    boot_needed)
    (text_rule (codes "batch") true)

-- command `a` with `--version` and `-V`, and with a required subcommand
abbrev pub versioned : App → App
versioned a = record a { top = record a.top { has_version = true; subcommand_required = true } }

-- the command of the program: `fault_of` says which arguments `clap` refuses, and `subcommand_of`
-- which subcommand the other arguments have
abbrev pub program : App
program =
    with_subcommand (with_subcommand (with_subcommand
    (with_subcommand (with_subcommand (versioned (new_app (codes "persod")))
    plan_command.top) drill_command.top)
    serve_command.top) report_command.top) feed_command.top

-- ---- the arguments that are accepted

-- `boot` is a boot number, 1 to 9,999,999,999
abbrev pub IsBoot : ℕ → Type 0
IsBoot boot = (1 ≤ boot) × (boot ≤ 9999999999)

-- each value of the subcommand is in its range
abbrev pub InRange : Words → Type 0
InRange (Plan max low check) = (16 ≤ max) × (max ≤ 255) × (low ≤ 31)
InRange Drill = ⊤
InRange (Serve db port turns) = (1 ≤ port) × (port ≤ 65535) × (1 ≤ turns) × (turns ≤ 1000000)
InRange (Report db batch) = ⊤
InRange (Feed port start) = (1 ≤ port) × (port ≤ 65535) × IsBoot start.boot

-- the subcommand uses only the standard streams, no file and no socket
abbrev pub UsesStreams : Words → Type 0
UsesStreams (Plan max low check) = ⊤
UsesStreams Drill = ⊤
UsesStreams (Serve db port turns) = ⊥
UsesStreams (Report db batch) = ⊥
UsesStreams (Feed port start) = ⊥

-- the value of option `name`, given or by default, is the decimal number `n`, which may have a plus
-- sign
abbrev pub IsNumber : Text → List Row → ℕ → Type 0
IsNumber name rows n = (t : Text) × (one_of name rows ≡ Some t)
    × IsNumeral 10 (without_leading_plus t) × (digits_value 10 (without_leading_plus t) ≡ n)

-- the value of flag `name`, given or by default, is `on`
abbrev pub IsFlag : Text → List Row → Bool → Type 0
IsFlag name rows on = one_of name rows ≡ Some (bool_text on)

-- the value of `option` is `name`, and that is a name
abbrev pub HasName : Text → List Row → Text → Type 0
HasName option rows name = (first_of option rows ≡ Some name) × (is_name name ≡ true)

-- the value of `option` isn't a name
abbrev pub HasBadName : Text → List Row → Type 0
HasBadName option rows = (name : Text) × (first_of option rows ≡ Some name)
    × (is_name name ≡ false)

-- the subcommand is `drill`
abbrev pub IsDrill : Option (Text × List Row) → Type 0
IsDrill sub = (rows : List Row) × (sub ≡ Some (codes "drill", rows))

-- the options `rows` of `plan` have the values of the subcommand
abbrev pub ReadsPlan : List Row → Words → Type 0
ReadsPlan rows (Plan max low check) = IsNumber (codes "max") rows max
    × IsNumber (codes "low") rows low × IsFlag (codes "check") rows check
ReadsPlan rows _ = ⊥

-- the options `rows` of `serve` have the values of the subcommand
abbrev pub ReadsServe : List Row → Words → Type 0
ReadsServe rows (Serve db port turns) = (first_of (codes "db") rows ≡ Some (string_bytes db))
    × IsNumber (codes "port") rows port × IsNumber (codes "turns") rows turns
ReadsServe rows _ = ⊥

-- the options `rows` of `report` have the values of the subcommand
abbrev pub ReadsReport : List Row → Words → Type 0
ReadsReport rows (Report db batch) = (first_of (codes "db") rows ≡ Some (string_bytes db))
    × HasName (codes "batch") rows batch
ReadsReport rows _ = ⊥

-- the options `rows` of `feed` have the values of the subcommand
abbrev pub ReadsFeed : List Row → Words → Type 0
ReadsFeed rows (Feed port start) = IsNumber (codes "port") rows port
    × HasName (codes "machine") rows start.machine × IsNumber (codes "boot") rows start.boot
    × HasName (codes "batch") rows start.batch
ReadsFeed rows _ = ⊥

-- `sub` is the subcommand `name`, and `how` relates its options to `w`
abbrev pub Reads : Text → (List Row → Words → Type 0) → Option (Text × List Row) → Words → Type 0
Reads name how sub w = (rows : List Row) × (sub ≡ Some (name, rows)) × how rows w

-- `clap`'s subcommand `sub`, with its options, reads as the given subcommand
abbrev pub ReadsAs : Option (Text × List Row) → Words → Type 0
ReadsAs sub (Plan max low check) = Reads (codes "plan") ReadsPlan sub (Plan max low check)
ReadsAs sub Drill = IsDrill sub
ReadsAs sub (Serve db port turns) = Reads (codes "serve") ReadsServe sub (Serve db port turns)
ReadsAs sub (Report db batch) = Reads (codes "report") ReadsReport sub (Report db batch)
ReadsAs sub (Feed port start) = Reads (codes "feed") ReadsFeed sub (Feed port start)

-- the arguments `words` ask for the given subcommand: the subcommand that `clap` finds in them
-- reads as it
abbrev pub Means : List Text → Words → Type 0
Means words = ReadsAs (subcommand_of program words)

-- no subcommand with its values in their ranges satisfies `how`
abbrev pub ReadsNone : (Words → Type 0) → Type 0
ReadsNone how = (w : Words) → InRange w → ¬ how w

-- `option` has no value, or its value isn't a name
abbrev pub LacksName : Text → List Row → ValueFault → Type 0
LacksName option rows lacks.Nothing = (t : Text) → ¬ (first_of option rows ≡ Some t)
LacksName option rows lacks.BadName = HasBadName option rows
LacksName option rows lacks.Memory = ⊥

-- the reason why the options `rows` of `serve` aren't read
abbrev pub ServesNot : List Row → ValueFault → Type 0
ServesNot rows lacks.Nothing = ReadsNone (ReadsServe rows)
ServesNot rows lacks.BadName = ⊥
ServesNot rows lacks.Memory = ⊤

-- the reason why the options `rows` of `report` aren't read
abbrev pub ReportsNot : List Row → ValueFault → Type 0
ReportsNot rows lacks.Nothing = ReadsNone (ReadsReport rows)
ReportsNot rows lacks.BadName = HasBadName (codes "batch") rows
ReportsNot rows lacks.Memory = ⊤

-- the reason why the options `rows` of `feed` aren't read
abbrev pub FeedsNot : List Row → ValueFault → Type 0
FeedsNot rows lacks.Nothing = ReadsNone (ReadsFeed rows)
FeedsNot rows lacks.BadName = HasBadName (codes "machine") rows ⊎ HasBadName (codes "batch") rows
FeedsNot rows lacks.Memory = ⊥

-- `sub` is `report` or `feed`, and the value for its batch or machine isn't a name
abbrev pub HasBadNameIn : Option (Text × List Row) → Type 0
HasBadNameIn sub =
    ((rows : List Row) × (sub ≡ Some (codes "report", rows)) × ReportsNot rows lacks.BadName)
    ⊎ ((rows : List Row) × (sub ≡ Some (codes "feed", rows)) × FeedsNot rows lacks.BadName)

-- the reason why `clap`'s subcommand `sub` isn't read
abbrev pub ReadsNot : Option (Text × List Row) → ValueFault → Type 0
ReadsNot sub lacks.Nothing = ReadsNone (ReadsAs sub)
ReadsNot sub lacks.BadName = HasBadNameIn sub
ReadsNot sub lacks.Memory = ⊤

-- `kinds` are the kinds of error that `clap` may report: help and the version are reported if they
-- are among them, and a usage error if another kind is; running out of memory needs no cause
abbrev pub IsRefusedBy : Kinds → WordsFault → Type 0
IsRefusedBy kinds (Help text) = IsAmong DisplayHelp kinds
IsRefusedBy kinds (Version text) = IsAmong DisplayVersion kinds
IsRefusedBy kinds (Usage text) =
    (k : ErrorKind) × IsAmong k kinds × (k ≢ DisplayHelp) × (k ≢ DisplayVersion)
IsRefusedBy kinds NotText = ⊥
IsRefusedBy kinds BadName = ⊥
IsRefusedBy kinds Memory = ⊤

-- the fault is `clap`'s refusal of the arguments `words` of the command `app`; or `clap` accepts
-- them, and `Unread` says why the subcommand that it finds in them isn't read
abbrev pub IsRefusalOf : App → (Option (Text × List Row) → ValueFault → Type 0) → List Text → WordsFault → Type 0
IsRefusalOf app Unread words (Help text) = IsRefusedBy (fault_of app words) (Help text)
IsRefusalOf app Unread words (Version text) = IsRefusedBy (fault_of app words) (Version text)
IsRefusalOf app Unread words (Usage text) = IsRefusedBy (fault_of app words) (Usage text)
    ⊎ ((fault_of app words ≡ []) × Unread (subcommand_of app words) lacks.Nothing)
IsRefusalOf app Unread words NotText = ⊥
IsRefusalOf app Unread words BadName =
    (fault_of app words ≡ []) × Unread (subcommand_of app words) lacks.BadName
IsRefusalOf app Unread words Memory = ⊤

-- the fault is the refusal of the arguments `words` of the program
abbrev pub IsRefusal : List Text → WordsFault → Type 0
IsRefusal = IsRefusalOf program ReadsNot

-- the fault if the arguments of the process can't be read, by the kind of the error
abbrev pub fault_of_io : IoKind → WordsFault
fault_of_io io.OutOfMemory = Memory
fault_of_io _ = NotText
