use Rattle.std.proofs.Common.{◌≡◌, ◌++◌, take}
use Rattle.std.specs.Prelude.{flat_map}
use Rattle.book_sheet.specs.Html.{cell_html}
use Rattle.book_sheet.proofs.html.push_cells.Given as goal

abbrev pub invariant-loop-cell : goal.invariant-loop-cell
invariant-loop-cell l = l.page.items ≡ l.fn.page.items ++ flat_map cell_html (take l.cell-index l.cells)
