-- The lines of a drill (this project's profile).
use Rattle.std.specs.Prelude.{◌≤◌, ℕ, List, Option, Some, None, option_map, option_and_then, ⊤}
use Rattle.text_io.specs.Lines.{word_of}
use Rattle.drill.specs.declared.line.Line.{Line as Parsed}
use Rattle.drill.specs.declared.line.Line.TheVariants as parsed
use Rattle.drill.specs.declared.delivery.Delivery.{Delivery}
use Rattle.drill.specs.declared.turn.Turn.{Turn}
use Rattle.drill.specs.Turns.{IsTurn, turn_by}
use Rattle.drill.specs.Deliveries.{delivery_by}
use Rattle.drill.specs.Scripts.{Step, shown, step_by}

pub data Line : Type 0 where
  Move : Turn → Line
  Deliver : Delivery → Line
  Ask : Step → Line

-- the first line that there is
abbrev pub or_line : Option Line → Option Line → Option Line
or_line None other = other
or_line (Some line) other = Some line

-- the line with this first word and this rest
abbrev pub line_by : List ℕ → List ℕ → Option Line
line_by word words =
    or_line (option_map (λ t. Move t) (turn_by word words))
    (or_line (option_map (λ d. Deliver d) (delivery_by word words)) (option_map (λ s. Ask s) (step_by word words)))

-- the meaning of a line, or `None` if it is malformed
abbrev pub line_of : List ℕ → Option Line
line_of text = option_and_then (λ (p : List ℕ × List ℕ). line_by p.0 p.1) (word_of text)

-- ---- the values of the code

abbrev pub shown_line : Parsed → Line
shown_line (parsed.Move turn) = Move turn
shown_line (parsed.Deliver delivery) = Deliver delivery
shown_line (parsed.Ask step) = Ask (shown step)

-- the numbers of a line are in their ranges
abbrev pub IsLine : Parsed → Type 0
IsLine (parsed.Move turn) = IsTurn turn
IsLine (parsed.Deliver delivery) = 1 ≤ delivery.packet
IsLine (parsed.Ask step) = ⊤
