use Rattle.std.proofs.Common.{◌≡◌, ◌∙◌, [], ◌∷◌, ◌++◌, decimal, ap, subst}
use Rattle.std.specs.Prelude.{OnOk, string_bytes}
use Rattle.std.specs.Fmt.{styled_decimal}
use Rattle.reports.specs.Report.{right_in}
use Rattle.reports.proofs.TextLemmas.{line_is, right_in_10}
use Rattle.reports.proofs.report.push_total.Goals as goal

pub returns : goal.returns
returns c =
    let number = ap (λ layout. styled_decimal layout c.args.total) c.laid_out.ensures ∙ right_in_10 c.args.total in
    subst (λ line. OnOk c.writeln.result (string_bytes c.writeln.new.self ≡ string_bytes c.args.text.now ++ line))
    (ap (λ digits. c.args.label.now ++ 32 ∷ (digits ++ 10 ∷ [])) number ∙ line_is c.args.label.now (right_in 10 (decimal c.args.total))) c.writeln.ensures.bytes
