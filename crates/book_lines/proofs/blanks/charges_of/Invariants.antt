use Rattle.std.proofs.Common.{◌≡◌, map, take}
use Rattle.std.specs.Prelude.{filter}
use Rattle.book_lines.specs.Blanks.{charge_of, is_of}
use Rattle.book_lines.proofs.blanks.charges_of.Given as goal

abbrev pub invariant-loop-blank : goal.invariant-loop-blank
invariant-loop-blank l = l.charges.items ≡ map (charge_of l.tables) (filter (is_of l.tables l.product) (take l.blank-index l.tables.blanks))
