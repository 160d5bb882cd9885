-- The lines of a text and the words of a line (this project's profile).
use Rattle.std.specs.Prelude.{ℕ, ◌+◌, ◌-◌, ◌==◌, Bool, nat_eq, List, [], length, take, drop, codes, position, Option, option_map, if◌then◌else◌}
use Rattle.std.specs.List.{ends_with, slice_split}

abbrev pub without_end : List ℕ → List ℕ
without_end text = if ends_with nat_eq text (codes "\n") then take (length text - 1) text else text

-- the lines of `text` without their LF; the last line may lack one
abbrev pub lines : List ℕ → List (List ℕ)
lines text = if length text == 0 then [] else slice_split (λ b. b == 10) (without_end text)

-- the words of a line, which are separated by single spaces
abbrev pub words : List ℕ → List (List ℕ)
words text = slice_split (λ b. b == 32) text

-- the items before and after the first item that passes
abbrev pub cut : {T : Type 0} → (T → Bool) → List T → Option (List T × List T)
cut passes xs = option_map (λ i. (take i xs, drop (i + 1) xs)) (position passes xs)

-- the first word of a line, and the rest after its space
abbrev pub word_of : List ℕ → Option (List ℕ × List ℕ)
word_of text = cut (λ b. b == 32) text
