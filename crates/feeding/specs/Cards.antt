-- The cards of a feed, and the lines that are printed about them (this project's profile).
use Rattle.std.specs.Prelude.{ℕ, ◌+◌, ◌-◌, ◌^◌, Bool, if◌then◌else◌, List, [], ◌∷◌, ◌++◌, length, map, codes, nat_lt, slice_get, unwrap_or, Option, Some, None, option_map, option_and_then}
use Rattle.std.specs.Fmt.{decimal}
use Rattle.hex.specs.Hex.{encode_upper}
use Rattle.text_io.specs.Written.{line}
use Rattle.wire.specs.Sending.{word_text}
use Rattle.text_io.specs.Lines.{words}
use Rattle.text_io.specs.Numbers.{number_within, status_word}

-- a card: its serial number, its status words in order, and how many it has returned
pub record Card : Type 0 where
  pub serial : ℕ
  pub words : List ℕ
  pub given : ℕ

-- all values, if none is missing
abbrev pub all_of : List (Option ℕ) → Option (List ℕ)
all_of [] = Some []
all_of (o ∷ os) = option_and_then (λ x. option_map (λ xs. x ∷ xs) (all_of os)) o

abbrev pub new_card : List ℕ → ℕ → Card
new_card words serial = record { serial = serial; words = words; given = 0 }

abbrev pub card_by : List (List ℕ) → Option Card
card_by [] = None
card_by (first ∷ rest) =
    option_and_then (λ serial. option_map (λ ws. new_card ws serial) (all_of (map status_word rest))) (number_within 0 (10 ^ 18 - 1) first)

-- the card of a line: a serial number, then the status words, separated by single spaces
abbrev pub card_of : List ℕ → Option Card
card_of text = card_by (words text)

-- the next status word of the card: 9000 once all its status words are used
abbrev pub next_word : Card → ℕ
next_word c = unwrap_or (slice_get c.words c.given) 36864

-- the card after it returned that status word
abbrev pub gives : Card → Card
gives c = if nat_lt c.given (length c.words) then record c { given = c.given + 1 } else c

-- ---- the output

-- the line with a serial number, a space, and `content`
abbrev pub card_line : ℕ → List ℕ → List ℕ
card_line serial content = line (decimal serial ++ 32 ∷ content)

-- the line of a command that the card received, in upper-case hexadecimal, with its status word
abbrev pub applied_line : ℕ → List ℕ → ℕ → List ℕ
applied_line serial command sw = card_line serial (encode_upper command ++ 32 ∷ word_text sw)

-- the line of an ejected card
abbrev pub end_line : ℕ → Bool → List ℕ
end_line serial good = card_line serial (if good then codes "good" else codes "rejected")
