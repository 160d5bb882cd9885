-- A run of the program `persod`: the end of its subcommand, and its exit status (this project's
-- profile).
use Rattle.std.specs.Prelude.{◌≡◌, ◌⊎◌, ℕ, Bool}
use Rattle.sqlite.specs.Recovery.{Image}
use Rattle.sqlite_disk.specs.declared.Disk.{Ghosts}
use Rattle.arguments.specs.Words.{InRange}
use Rattle.arguments.specs.declared.words.Words.{Words}
use Rattle.arguments.specs.declared.words.WordsFault.{WordsFault}
use Rattle.event_lines.specs.declared.level.Level.{Level}
use Rattle.subcommands.specs.Ends.{end_of_words, exit_of}
use Rattle.subcommands.specs.declared.end.End.{End}
use Rattle.tasks.specs.Obeys.{Obeys}

module _ {D : Type 0} (g : Ghosts D) (image : Image) (IsFresh : Bool → D → Type 0) where
  -- The arguments are a subcommand that was run, or `end` is the end for their fault.
  abbrev pub EndsRun : End → Type 0
  EndsRun end =
      ((level : Level) × (w : Words) × InRange w × Obeys g image IsFresh level w end)
      ⊎ ((fault : WordsFault) × (is_written : Bool) × (end ≡ end_of_words fault is_written))

  -- `status` is the exit status of a run.
  abbrev pub Exits : ℕ → Type 0
  Exits status = (end : End) × EndsRun end × (status ≡ (exit_of end).status)
