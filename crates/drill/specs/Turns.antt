-- The lines of a drill that move a machine or a reply (this project's profile).
use Rattle.std.specs.Prelude.{◌≤◌, ◌<◌, ◌^◌, ◌-◌, ℕ, List, bytes_eq, codes, Option, Some, None, option_map, option_and_then, if◌then◌else◌, ⊤}
use Rattle.store_data.specs.Name.{is_name}
use Rattle.text_io.specs.Lines.{word_of}
use Rattle.text_io.specs.Numbers.{number_within, status_word}
use Rattle.drill.specs.declared.turn.Turn.{Turn}
use Rattle.drill.specs.declared.turn.Turn.TheVariants as turn

-- ---- words

abbrev pub name_of : List ℕ → Option (List ℕ)
name_of text = if is_name text then Some text else None

-- the name of a machine, which must not be `office`
abbrev pub machine_of : List ℕ → Option (List ℕ)
machine_of text = if bytes_eq text (codes "office") then None else name_of text

abbrev pub serial_of : List ℕ → Option ℕ
serial_of text = number_within 0 (10 ^ 18 - 1) text

-- packets and replies are numbered from 1
abbrev pub count_of : List ℕ → Option ℕ
count_of text = number_within 1 (10 ^ 18 - 1) text

-- ---- lines

abbrev pub power_by : List ℕ × List ℕ → Option Turn
power_by p = option_and_then (λ m. option_map (λ b. turn.Power m b) (number_within 1 9999999999 p.1)) (machine_of p.0)

abbrev pub power_of : List ℕ → Option Turn
power_of words = option_and_then power_by (word_of words)

abbrev pub insert_by : List ℕ → List ℕ × List ℕ → Option Turn
insert_by machine q =
    option_and_then (λ m. option_and_then (λ b. option_map (λ s. turn.Insert m b s) (serial_of q.1)) (name_of q.0)) (machine_of machine)

abbrev pub insert_of : List ℕ → Option Turn
insert_of words = option_and_then (λ (p : List ℕ × List ℕ). option_and_then (insert_by p.0) (word_of p.1)) (word_of words)

abbrev pub card_by : List ℕ × List ℕ → Option Turn
card_by p = option_and_then (λ m. option_map (λ w. turn.Card m w) (status_word p.1)) (machine_of p.0)

abbrev pub card_of : List ℕ → Option Turn
card_of words = option_and_then card_by (word_of words)

-- the event of a line with this first word and this rest
abbrev pub turn_by : List ℕ → List ℕ → Option Turn
turn_by word words =
    if bytes_eq word (codes "power") then power_of words
    else if bytes_eq word (codes "insert") then insert_of words
    else if bytes_eq word (codes "send") then option_map (λ m. turn.Send m) (machine_of words)
    else if bytes_eq word (codes "card") then card_of words
    else if bytes_eq word (codes "back") then option_map (λ j. turn.Back j) (count_of words)
    else None

-- ---- the numbers of an event are in their ranges

abbrev pub IsTurn : Turn → Type 0
IsTurn (turn.Power machine boot) = (1 ≤ boot) × (boot ≤ 9999999999)
IsTurn (turn.Insert machine batch blank) = blank < 10 ^ 18
IsTurn (turn.Send machine) = ⊤
IsTurn (turn.Card machine sw) = ⊤
IsTurn (turn.Back reply) = 1 ≤ reply
