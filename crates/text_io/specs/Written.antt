-- The part of a text that a writer has accepted.
use Rattle.std.specs.Prelude.{◌≡◌, ℕ, List, [], ◌∷◌, ◌++◌, Option, Result, Ok, Err}
use Rattle.std.specs.Io.KnownBytes.{Appends}
use Rattle.text_io.specs.declared.writing.WriteFailed.{WriteFailed}

-- a prefix of `text` was written
abbrev pub AppendsBeginning : Option (List ℕ) → Option (List ℕ) → List ℕ → Type 0
AppendsBeginning before after text = (front : List ℕ) × (back : List ℕ) × (front ++ back ≡ text) × Appends before after front

-- `text` was written, or only a prefix of it if the result is an error
abbrev pub Writes : Option (List ℕ) → Option (List ℕ) → List ℕ → Result (Unit {0}) WriteFailed → Type 0
Writes before after text (Ok u) = Appends before after text
Writes before after text (Err e) = AppendsBeginning before after text

-- a line with LF at its end
abbrev pub line : List ℕ → List ℕ
line text = text ++ 10 ∷ []
