-- The command line of `shopbook` (this project's profile), as a command of `clap`, and the meaning
-- of its arguments.
use Rattle.std.specs.Prelude.{◌≡◌, ◌≢◌, ◌⊎◌, ⊤, Bool, List, codes, Option, None, Some, true, false, string_bytes}
use Rattle.clap.specs.Words.{App, Row, Text, first_of, new_app, subcommand_of, with_rule, with_subcommand}
use Rattle.arguments.specs.Words.{HasBadName, HasName, IsFlag, IsRefusalOf, flag, text_rule, versioned}
use Rattle.arguments.specs.declared.words.WordsFault.{WordsFault}
use Rattle.book_lines.specs.Blanks.{state_word}
use Rattle.book_lines.specs.declared.blank_state.BlankState.{BlankState}
use Rattle.book_arguments.specs.declared.words.Ask.{Ask}
use Rattle.book_arguments.specs.declared.words.Ask.TheVariants.{Check, Lists, Cards, Blanks, Machines, Sheet}
use Rattle.book_arguments.specs.declared.words.BookWords.{BookWords}
use Rattle.arguments.specs.declared.words.ValueFault.{ValueFault}
use Rattle.arguments.specs.declared.words.ValueFault.TheVariants as lacks

-- ---- the command

-- `NAME --db PATH`
abbrev pub file_command : Text → App
file_command name = with_rule (new_app name) (text_rule (codes "db") true)

-- `NAME --db PATH [--json]`
abbrev pub book_command : Text → App
book_command name = with_rule (file_command name) (flag (codes "json"))

-- `cards --db PATH [--json] --batch NAME`
abbrev pub cards_command : App
cards_command = with_rule (book_command (codes "cards")) (text_rule (codes "batch") true)

-- `blanks --db PATH [--json] --product NAME [--state STATE]`
abbrev pub blanks_command : App
blanks_command = with_rule (with_rule (book_command (codes "blanks")) (text_rule (codes "product") true)) (text_rule (codes "state") false)

-- `sheet --db PATH --batch NAME`
abbrev pub sheet_command : App
sheet_command = with_rule (file_command (codes "sheet")) (text_rule (codes "batch") true)

-- the command of the program: `fault_of` says which arguments `clap` refuses, and `subcommand_of`
-- which subcommand the other arguments have
abbrev pub program : App
program =
    with_subcommand (with_subcommand (with_subcommand (with_subcommand (with_subcommand (with_subcommand (versioned (new_app (codes "shopbook")))
    (book_command (codes "check")).top) (book_command (codes "list")).top) cards_command.top) blanks_command.top)
    (book_command (codes "machines")).top) sheet_command.top

-- ---- the arguments that are accepted

-- the value of `--state` is the given state, or the option isn't given
abbrev pub HasState : List Row → Option BlankState → Type 0
HasState rows None = first_of (codes "state") rows ≡ None
HasState rows (Some state) = first_of (codes "state") rows ≡ Some (state_word state)

-- the name of the subcommand
abbrev pub word_for : Ask → Text
word_for Check = codes "check"
word_for Lists = codes "list"
word_for (Cards batch) = codes "cards"
word_for (Blanks product state) = codes "blanks"
word_for Machines = codes "machines"
word_for (Sheet batch) = codes "sheet"

-- the options `rows` have the values of the subcommand
abbrev pub AreOptionsOf : Ask → List Row → Type 0
AreOptionsOf (Cards batch) rows = HasName (codes "batch") rows batch
AreOptionsOf (Blanks product state) rows = HasName (codes "product") rows product × HasState rows state
AreOptionsOf (Sheet batch) rows = HasName (codes "batch") rows batch
AreOptionsOf _ rows = ⊤

-- `name` is the name of the subcommand `ask`, and the options `rows` have its values
abbrev pub Asks : Text → List Row → Ask → Type 0
Asks name rows ask = (name ≡ word_for ask) × AreOptionsOf ask rows

-- `json` is the value of `--json`, and `false` for `sheet`, which doesn't have that option
abbrev pub IsForm : Text → List Row → Bool → Type 0
IsForm name rows json = ((name ≡ codes "sheet") × (json ≡ false)) ⊎ ((name ≢ codes "sheet") × IsFlag (codes "json") rows json)

-- the subcommand `name` with the options `rows` reads as `w`
abbrev pub Reads : Text → List Row → BookWords → Type 0
Reads name rows w = Asks name rows w.ask × (first_of (codes "db") rows ≡ Some (string_bytes w.db)) × IsForm name rows w.json

-- `clap`'s subcommand `sub`, with its options, reads as `w`
abbrev pub ReadsAs : Option (Text × List Row) → BookWords → Type 0
ReadsAs sub w = (name : Text) × ((rows : List Row) × (sub ≡ Some (name, rows)) × Reads name rows w)

-- the arguments `words` ask for the given run: the subcommand that `clap` finds in them reads as it
abbrev pub Means : List Text → BookWords → Type 0
Means words = ReadsAs (subcommand_of program words)

-- ---- the refusals

-- the value of `--state` isn't a state
abbrev pub LacksState : List Row → ValueFault → Type 0
LacksState rows lacks.Nothing = (state : Option BlankState) → ¬ HasState rows state
LacksState rows lacks.BadName = ⊥
LacksState rows lacks.Memory = ⊥

-- the subcommand `name` has the option `--batch`
abbrev pub IsOfBatch : Text → Type 0
IsOfBatch name = (name ≡ codes "cards") ⊎ (name ≡ codes "sheet")

-- the value for the product or the batch of the subcommand `name` isn't a name
abbrev pub NamesBadly : Text → List Row → Type 0
NamesBadly name rows = ((name ≡ codes "blanks") × HasBadName (codes "product") rows) ⊎ (IsOfBatch name × HasBadName (codes "batch") rows)

-- the reason why the subcommand's own options aren't read
abbrev pub AsksNot : Text → List Row → ValueFault → Type 0
AsksNot name rows lacks.Nothing = (ask : Ask) → ¬ Asks name rows ask
AsksNot name rows lacks.BadName = NamesBadly name rows
AsksNot name rows lacks.Memory = ⊥

-- the reason why the subcommand `name` with the options `rows` isn't read
abbrev pub IsUnread : Text → List Row → ValueFault → Type 0
IsUnread name rows lacks.Nothing = (w : BookWords) → ¬ Reads name rows w
IsUnread name rows lacks.BadName = NamesBadly name rows
IsUnread name rows lacks.Memory = ⊤

-- the reason why `clap`'s subcommand `sub` isn't read
abbrev pub ReadsNot : Option (Text × List Row) → ValueFault → Type 0
ReadsNot sub lacks.Nothing = (w : BookWords) → ¬ ReadsAs sub w
ReadsNot sub lacks.BadName = (name : Text) × ((rows : List Row) × (sub ≡ Some (name, rows)) × IsUnread name rows lacks.BadName)
ReadsNot sub lacks.Memory = ⊤

-- the fault is the refusal of the arguments `words` of the program
abbrev pub IsRefusal : List Text → WordsFault → Type 0
IsRefusal = IsRefusalOf program ReadsNot
