use Rattle.std.proofs.Common.{Err, Some, option_map, option_and_then, sym, ap, ◌∙◌}
use Rattle.serde_json.specs.Data.{object}
use Rattle.serde_json.specs.Find.{as_object}
use Rattle.serde_json.specs.Read.{read}
use Rattle.serde_json.proofs.Views.{view-Object}
use Rattle.http_requests.specs.Bodies.{known_primitives}
use Rattle.http_requests.proofs.BodyLemmas.{object_in-read, object_in-unread}
use Rattle.http_requests.proofs.body.object_in.Goals as goal

pub returns-in_default : goal.returns-in_default
returns-in_default c = sym (object_in-unread c.args.body.now c.in_default.ensures.cases.0)

pub returns-in-Ok-read_text : goal.returns-in-Ok-read_text
returns-in-Ok-read_text c =
    let text = c.in-Ok.ensures.cases in
    ap Some (view-Object c.in-Ok-read_text.members) ∙ sym (ap (option_map object) c.in-Ok-read_text.ensures.ok)
    ∙ ap (λ t. option_map object (option_and_then known_primitives (option_and_then as_object (read t)))) text.0 ∙ sym (object_in-read c.args.body.now text.1)

pub returns-in-Err-Unfit : goal.returns-in-Err-Unfit
returns-in-Err-Unfit c =
    let text = c.in-Ok.ensures.cases in
    sym (ap (option_map object) (c.in-Err-Unfit.ensures.unfit (ap Err c.in-Err-Unfit.field-0-is)))
    ∙ ap (λ t. option_map object (option_and_then known_primitives (option_and_then as_object (read t)))) text.0 ∙ sym (object_in-read c.args.body.now text.1)
