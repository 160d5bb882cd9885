use Rattle.std.proofs.Common.{◌≡◌, ◌++◌, map, take}
use Rattle.std.specs.Prelude.{filter}
use Rattle.book_lines.specs.Blanks.{charge_of, is_charged_to}
use Rattle.book_lines.proofs.blanks.add_charges.Given as goal

abbrev pub invariant-loop-blank : goal.invariant-loop-blank
invariant-loop-blank l = l.charges.items ≡ l.fn.charges.items ++ filter (is_charged_to l.id) (map (charge_of l.tables) (take l.blank-index l.tables.blanks))
