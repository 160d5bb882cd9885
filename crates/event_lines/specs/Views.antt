-- The text of an event line.
use Rattle.std.specs.Prelude.{ℕ, List}
use Rattle.event_lines.specs.declared.line.EventLine.{EventLine}

abbrev pub text_of : EventLine → List ℕ
text_of line = line.text.items
