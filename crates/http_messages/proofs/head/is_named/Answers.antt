use Rattle.std.proofs.Common.{ap, ◌∙◌}
use Rattle.std.specs.Str.{bytes_eq, str_to_ascii_lowercase}
use Rattle.std.proofs.lemmas.Bool.Decides.{same_from_decides}
use Rattle.std.proofs.lemmas.Slice.Eq.{bytes_eq-Decides}
use Rattle.http_messages.proofs.head.is_named.Goals as goal

pub returns : goal.returns
returns c =
    let lower = str_to_ascii_lowercase in
    let name = c.args.name.now in
    same_from_decides c.eq_ignore_ascii_case.result (bytes_eq (lower c.of.result.now) (lower name)) c.eq_ignore_ascii_case.ensures.test (bytes_eq-Decides (lower c.of.result.now) (lower name))
    ∙ ap (λ field. bytes_eq (lower field) (lower name)) c.of.ensures
