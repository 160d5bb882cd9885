use Rattle.std.proofs.Common.{◌≡◌, ◌++◌, take}
use Rattle.std.specs.Prelude.{flat_map}
use Rattle.book_lines.specs.Blanks.{wanted_text}
use Rattle.book_lines.proofs.blanks.push_blanks.Given as goal

abbrev pub invariant-loop-charge : goal.invariant-loop-charge
invariant-loop-charge l = l.text.items ≡ l.fn.text.items ++ flat_map (wanted_text l.form l.tables l.state) (take l.charge-index l.charges)
