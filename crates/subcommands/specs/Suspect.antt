-- The event line of a WAL that looks damaged and that another program wrote (this project's
-- profile).
use Rattle.std.specs.Prelude.{ℕ, List, ◌++◌, codes}
use Rattle.event_lines.specs.Lines.{quoted_pair}

-- the event line; `path` is the path of the database file
abbrev pub suspect_line : List ℕ → List ℕ
suspect_line path = codes "suspect-wal" ++ quoted_pair (codes "db") path
