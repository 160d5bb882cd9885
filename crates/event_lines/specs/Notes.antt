-- The bytes that a log writes for event lines.
use Rattle.std.specs.Prelude.{ℕ, List, [], ◌∷◌, Option}
use Rattle.std.specs.Io.KnownBytes.{Keeps}
use Rattle.text_io.specs.Written.{AppendsBeginning, line}
use Rattle.event_lines.specs.declared.level.Level.{Level}
use Rattle.event_lines.specs.declared.level.Level.TheVariants.{Off, Usual, All}

-- at level `Off` nothing is written; otherwise the line of `text` is, or only a prefix of it if a
-- write or an allocation fails
abbrev pub Notes : Level → Option (List ℕ) → Option (List ℕ) → List ℕ → Type 0
Notes Off before after text = Keeps before after
Notes Usual before after text = AppendsBeginning before after (line text)
Notes All before after text = AppendsBeginning before after (line text)

-- the lines of the texts are written in this order
abbrev pub NotesAll : Level → Option (List ℕ) → Option (List ℕ) → List (List ℕ) → Type 0
NotesAll level before after [] = Keeps before after
NotesAll level before after (text ∷ texts) = (mid : Option (List ℕ)) × Notes level before mid text × NotesAll level mid after texts
