use Rattle.std.proofs.Common.{◌≡◌, ◌++◌, take}
use Rattle.book_lines.specs.Lines.{lines_by}
use Rattle.book_lines.proofs.printed.print_all.Given as goal

abbrev pub invariant-loop-row : goal.invariant-loop-row
invariant-loop-row g l = l.text.items ≡ l.fn.text.items ++ lines_by l.form (g.T.Printed.line l.tables) (take l.row-index l.rows)
