-- The flaws of malformed lines (this project's profile).
use Rattle.std.specs.Prelude.{ℕ, ◌-◌, ◌^◌, ◌==◌, nat_eq, not, if◌then◌else◌, List, [], ◌∷◌, length, codes, Option, Some, None}
use Rattle.std.specs.List.{ends_with, list_any}
use Rattle.std.specs.Option.{is_some}
use Rattle.text_io.specs.Numbers.{is_word}
use Rattle.text_io.specs.Lines.{words}
use Rattle.text_io.specs.Numbers.{number_within}
use Rattle.feeding.specs.declared.flaw.Flaw.{Flaw}
use Rattle.feeding.specs.declared.flaw.Flaw.TheVariants.{Empty, EndsInCr, Space, Serial, Word}

-- the flaw of a line with these words, if no word is empty
abbrev pub flaw_by : List (List ℕ) → Option Flaw
flaw_by [] = Some Serial
flaw_by (first ∷ rest) =
    if not (is_some (number_within 0 (10 ^ 18 - 1) first)) then Some Serial
    else (if list_any (λ w. not (is_word w)) rest then Some Word else None)

-- the flaw of a line with these words; a word is empty before, between or after two spaces
abbrev pub flaw_among : List (List ℕ) → Option Flaw
flaw_among ws = if list_any (λ w. length w == 0) ws then Some Space else flaw_by ws

abbrev pub flaw_of : List ℕ → Option Flaw
flaw_of line = if length line == 0 then Some Empty else (if ends_with nat_eq line (codes "\r") then Some EndsInCr else flaw_among (words line))

-- the word for a flaw in an event line
abbrev pub flaw_name : Flaw → List ℕ
flaw_name Empty = codes "empty"
flaw_name EndsInCr = codes "ends-in-cr"
flaw_name Space = codes "space"
flaw_name Serial = codes "serial"
flaw_name Word = codes "word"
