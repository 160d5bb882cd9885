use Rattle.std.proofs.Common.{ℕ, List, ◌++◌}
use Rattle.std.specs.Prelude.{codes}
use Rattle.std.specs.Fmt.{decimal}
use Rattle.book_sheet.specs.Html.{between}
use Rattle.book_sheet.specs.Sheet.{part_html}
use Rattle.book_sheet.proofs.Joining.{join, last}
use Rattle.book_sheet.proofs.sheet.push_part.Goals as goal

pub returns : goal.returns
unfolding part_html
returns c =
    let head : List ℕ = between (codes "<div class=\"") c.args.state.now (codes "\" style=\"flex:") in
    let count : List ℕ = decimal c.args.count in
    last c.push_plain.result c.args.page.now.items c.push_number.new.text.items c.push_plain.new.page.items (head ++ count) (codes " 0 0\"></div>")
    (join c.args.page.now.items c.push_between.new.page.items c.push_number.new.text.items head count c.in_ok-push_between.ensures c.in_ok-push_number.ensures) c.push_plain.ensures
