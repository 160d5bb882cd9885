-- The level of event lines (this project's profile).
use Rattle.std.specs.Prelude.{ℕ, List, [], bytes_eq, codes, if◌then◌else◌, Option, Some, None}
use Rattle.event_lines.specs.declared.level.Level.{Level}
use Rattle.event_lines.specs.declared.level.Level.TheVariants.{Off, Usual, All}

-- the level for the value of `PERSOD_LOG`: an unset or empty variable, `0` and `off` turn the lines
-- off, `all` turns all of them on, and any other value the usual ones
abbrev pub level_of : Option (List ℕ) → Level
level_of None = Off
level_of (Some value) =
    if bytes_eq value [] then Off
    else (if bytes_eq value (codes "0") then Off
    else (if bytes_eq value (codes "off") then Off
    else (if bytes_eq value (codes "all") then All else Usual)))
