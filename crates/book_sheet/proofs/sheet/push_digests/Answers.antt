use Rattle.std.proofs.Common.{ℕ, List, ◌++◌}
use Rattle.std.specs.Prelude.{codes}
use Rattle.book_sheet.specs.Sheet.{digest_html, digests_html}
use Rattle.book_sheet.proofs.Joining.{join, last}
use Rattle.book_sheet.proofs.sheet.push_digests.Goals as goal

pub returns : goal.returns
unfolding digests_html
returns c =
    let file : List ℕ = digest_html (codes "<p>SHA-256 of the batch file <code>") c.args.raw.now in
    let report : List ℕ = digest_html (codes "<p>SHA-256 of the close report, as it would be written now <code>") c.args.report.now in
    last c.push_plain.result c.args.page.now.items c.push_digest-2.new.page.items c.push_plain.new.page.items (file ++ report) (codes "</body>\n</html>\n")
    (join c.args.page.now.items c.push_digest.new.page.items c.push_digest-2.new.page.items file report c.in_ok-push_digest.ensures c.in_ok-push_digest-2.ensures)
    c.push_plain.ensures
