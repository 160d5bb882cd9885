use Rattle.std.proofs.Common.{sym, ap, ◌∙◌, Some}
use Rattle.std.specs.Prelude.{option_map}
use Rattle.http_requests.specs.Requests.{count_of}
use Rattle.http_requests.proofs.RequestLemmas.{count_of-members_view}
use Rattle.http_requests.proofs.request.count_in.Goals as goal

pub returns : goal.returns
returns c =
    ap Some (c.len.ensures.len ∙ sym (count_of-members_view c.in_ok-as_object.field-0.now.entries))
    ∙ ap (option_map count_of) c.in_ok-as_object.ensures
