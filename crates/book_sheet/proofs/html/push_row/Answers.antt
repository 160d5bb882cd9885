use Rattle.std.proofs.Common.{ℕ, List, ◌++◌}
use Rattle.std.specs.Prelude.{codes, flat_map}
use Rattle.book_sheet.specs.Html.{between, cell_html, row_html}
use Rattle.book_sheet.proofs.Joining.{join, last}
use Rattle.book_sheet.proofs.html.push_row.Goals as goal

pub returns : goal.returns
unfolding row_html
returns c =
    let head : List ℕ = between (codes "<tr class=\"") c.args.class.now (codes "\">") in
    let cells : List ℕ = flat_map cell_html c.args.cells.now in
    last c.push_plain.result c.args.page.now.items c.push_cells.new.page.items c.push_plain.new.page.items (head ++ cells) (codes "</tr>\n")
    (join c.args.page.now.items c.push_between.new.page.items c.push_cells.new.page.items head cells c.in_ok-push_between.ensures c.in_ok-push_cells.ensures) c.push_plain.ensures
