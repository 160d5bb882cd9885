use Rattle.std.proofs.Common.{◌≡◌, ◌++◌, take}
use Rattle.std.specs.List.{flat_map}
use Rattle.book_lines.specs.Lines.{cell_text}
use Rattle.book_lines.proofs.line.push_cells.Given as goal

abbrev pub invariant-loop-cell : goal.invariant-loop-cell
invariant-loop-cell l = l.text.items ≡ l.fn.text.items ++ flat_map (cell_text l.form) (take l.cell-index l.cells)
