use Rattle.std.proofs.Common.{◌∙◌, ◌==◌, ◌||◌, ap, take, min}
use Rattle.feeding.proofs.Noting.{line_taken}
use Rattle.feeding.proofs.events.first_line.Goals as goal

pub returns : goal.returns
returns c =
    let bytes = c.args.bytes.now in
    ap (λ n. take n bytes) (c.min.ensures ∙ ap (λ n. min n 100) c.unwrap_or-end.ensures) ∙ line_taken (λ b. (b == 13) || (b == 10)) bytes c.line_end.result 100 c.line_end.ensures
