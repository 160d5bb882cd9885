-- The connection of the arguments of `persod` with its streams, its database file and its event
-- lines.
use Rattle.std.specs.Prelude.{◌≡◌, ◌++◌, ◌∷◌, [], ℕ, List, Option, Some, None, Result, Ok, Err}
use Rattle.std.specs.Prelude.{String, codes, string_bytes}
use Rattle.std.specs.Global.{Global}
use Rattle.std.specs.declared.env.VarError.{VarError}
use Rattle.std.specs.declared.env.VarError.TheVariants as variable
use Rattle.event_lines.specs.Levels.{level_of}
use Rattle.event_lines.specs.declared.level.Level.{Level}
use Rattle.event_lines.specs.declared.level.Level.TheVariants.{Off, Usual}
use Rattle.event_lines.specs.Lines.{number_pair, pair, quoted_pair}
use Rattle.examination.specs.Words.{damage_word}
use Rattle.job_facts.specs.declared.store.StoreFault.{StoreFault}
use Rattle.over_tables.specs.Causes.{commits_in, name_in, word_of}
use Rattle.over_tables.specs.declared.cause.Cause.{Cause}
use Rattle.over_tables.specs.declared.fault.FileFault.{FileFault}
use Rattle.over_tables.specs.declared.fault.FileFault.TheVariants as file
use Rattle.subcommands.specs.Ends.{end_of_store}
use Rattle.subcommands.specs.declared.end.End.{End}
use Rattle.std.specs.Io.KnownBytes.{Keeps}
use Rattle.over_tables.specs.declared.opening.Wanted.{Wanted}
use Rattle.over_tables.specs.declared.opening.Wanted.TheVariants as wanted
use Rattle.text_io.specs.Written.{Writes}
use Rattle.text_io.specs.declared.writing.WriteFailed.{WriteFailed}
use Rattle.arguments.specs.declared.words.Words.{Words}
use Rattle.arguments.specs.declared.words.Words.TheVariants.{Plan, Drill, Serve, Report, Feed}
use Rattle.arguments.specs.declared.words.WordsFault.{WordsFault}
use Rattle.arguments.specs.declared.words.WordsFault.TheVariants as words

-- the level of event lines for the value of `PERSOD_LOG`; a value that isn't UTF-8 means the usual
-- lines
abbrev pub level_by : Result (String Global) VarError → Level
level_by (Ok value) = level_of (Some (string_bytes value))
level_by (Err variable.NotPresent) = level_of None
level_by (Err variable.NotUnicode) = Usual
level_by (Err variable.OutOfMemory) = Off

-- only `serve` creates a file that doesn't exist
abbrev pub wanted_of : Words → Wanted
wanted_of (Serve db port turns) = wanted.Any
wanted_of (Plan max low check) = wanted.Ours
wanted_of Drill = wanted.Ours
wanted_of (Report db batch) = wanted.Ours
wanted_of (Feed port start) = wanted.Ours

-- the text of help or of the version is written to the output, and that of a usage error to the
-- errors; nothing else is written to either
abbrev pub Explains : WordsFault → Option (List ℕ) → Option (List ℕ) → Option (List ℕ)
    → Option (List ℕ) → Result (Unit {0}) WriteFailed → Type 0
Explains (words.Help text) output output_after errors errors_after written =
    Writes output output_after (string_bytes text) written × Keeps errors errors_after
Explains (words.Version text) output output_after errors errors_after written =
    Writes output output_after (string_bytes text) written × Keeps errors errors_after
Explains (words.Usage text) output output_after errors errors_after written =
    Keeps output output_after × Writes errors errors_after (string_bytes text) written
Explains _ output output_after errors errors_after written =
    Keeps output output_after × Keeps errors errors_after × (written ≡ Ok tt)

-- the end of a run over a store that was then closed
abbrev pub end_of_close : End → Result (Unit {0}) StoreFault → End
end_of_close end (Ok u) = end
end_of_close end (Err fault) = end_of_store fault

-- ---- the event line of a file that is refused

-- the key and value for the table, index or view that a cause names
abbrev pub table_pair : Option (List ℕ) → List ℕ
table_pair None = []
table_pair (Some name) = quoted_pair (codes "table") name

-- the key and value for the number of durable commits after the damage of a WAL
abbrev pub commits_pair : Option ℕ → List ℕ
commits_pair None = []
commits_pair (Some commits) = number_pair (codes "commits") commits

-- the start of the line: the code of the refusal and the cause
abbrev pub refusal_start : ℕ → List ℕ → List ℕ
refusal_start code cause = codes "refused" ++ number_pair (codes "code") code ++ pair (codes "cause") cause

-- the line for a database whose tables don't match any schema version
abbrev pub not_ours_line : Cause → List ℕ → List ℕ
not_ours_line cause path =
    refusal_start 81 (word_of cause) ++ commits_pair (commits_in cause) ++ table_pair (name_in cause)
    ++ quoted_pair (codes "db") path

-- the line for a database whose rows don't represent sound contents
abbrev pub damaged_line : List ℕ → List ℕ → List ℕ
damaged_line cause path = refusal_start 82 cause ++ quoted_pair (codes "db") path

abbrev pub refusal_lines : FileFault → List ℕ → List (List ℕ)
refusal_lines (file.NotOurs cause) path = not_ours_line cause path ∷ []
refusal_lines (file.Damaged cause) path = damaged_line (damage_word cause) path ∷ []
refusal_lines file.Storage path = []
refusal_lines file.Memory path = []
