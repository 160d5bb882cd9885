use Rattle.std.proofs.Common.{ℕ, List, ◌++◌}
use Rattle.std.specs.Prelude.{codes}
use Rattle.book_sheet.specs.Sheet.{bar_html, parts_html}
use Rattle.book_sheet.proofs.Joining.{join, last}
use Rattle.book_sheet.proofs.sheet.push_bar.Goals as goal

pub returns : goal.returns
unfolding bar_html
returns c =
    let head : List ℕ = codes "<div class=\"bar\">" in
    let parts : List ℕ = parts_html c.args.batch.now in
    last c.push_plain-2.result c.args.page.now.items c.push_parts.new.page.items c.push_plain-2.new.page.items (head ++ parts) (codes "</div>\n")
    (join c.args.page.now.items c.push_plain.new.page.items c.push_parts.new.page.items head parts c.in_ok-push_plain.ensures c.in_ok-push_parts.ensures) c.push_plain-2.ensures
