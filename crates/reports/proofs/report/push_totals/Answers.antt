use Rattle.std.proofs.Common.{◌++◌, codes}
use Rattle.std.specs.Prelude.{string_bytes}
use Rattle.reports.specs.Report.{total_text, totals_text}
use Rattle.reports.proofs.TextLemmas.{after, on_ok}
use Rattle.reports.proofs.report.push_totals.Goals as goal

pub returns : goal.returns
unfolding totals_text
returns c =
    let text = string_bytes c.args.text.now in
    let t = c.args.totals.now in
    let one = total_text (codes "records") t.records in
    let waiting = total_text (codes "waiting") t.waiting in
    let running = total_text (codes "running") t.running in
    let failed = total_text (codes "failed") t.failed in
    let withdrawn = total_text (codes "withdrawn") t.withdrawn in
    let good = total_text (codes "good") t.good in
    let sessions = total_text (codes "sessions") t.sessions in
    let two = one ++ waiting in
    let three = two ++ running in
    let four = three ++ failed in
    let five = four ++ withdrawn in
    let six = five ++ good in
    let is_two = after text one waiting c.in_ok-push_total.ensures c.in_ok-push_total-2.ensures in
    let is_three = after text two running is_two c.in_ok-push_total-3.ensures in
    let is_four = after text three failed is_three c.in_ok-push_total-4.ensures in
    let is_five = after text four withdrawn is_four c.in_ok-push_total-5.ensures in
    let is_six = after text five good is_five c.in_ok-push_total-6.ensures in
    let is_seven = after text six sessions is_six c.in_ok-push_total-7.ensures in
    on_ok c.push_total-8.result (λ last. after text (six ++ sessions) (total_text (codes "spoiled") t.spoiled) is_seven last) c.push_total-8.ensures
