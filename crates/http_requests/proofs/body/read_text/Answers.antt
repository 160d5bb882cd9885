use Rattle.std.proofs.Common.{◌≡◌, ◌∷◌, ap, ◌∙◌, arith}
use Rattle.json.specs.Token.{Token}
use Rattle.json.specs.Lex.{tokens}
use Rattle.serde_json.specs.View.{members_view}
use Rattle.http_requests.proofs.BodyLemmas.{done, if_done, no_object_text, object_text}
use Rattle.http_requests.proofs.body.read_text.Goals as goal

pub returns-then-not-take_begin_object-clause-unfit : goal.returns-then-not-take_begin_object-clause-unfit
returns-then-not-take_begin_object-clause-unfit c refused = no_object_text c.args.text.now (grind arith)

pub returns-in_err-members-clause-unfit : goal.returns-in_err-members-clause-unfit
returns-in_err-members-clause-unfit c refused =
    let first : tokens c.args.text.now ≡ Token.begin_object ∷ c.take_begin_object.new.reader = grind arith in
    object_text c.args.text.now c.take_begin_object.new.reader first ∙ ap done (c.read_members.ensures.unfit (grind arith))

pub returns-in-Some-clause-unfit : goal.returns-in-Some-clause-unfit
returns-in-Some-clause-unfit c refused =
    let first : tokens c.args.text.now ≡ Token.begin_object ∷ c.take_begin_object.new.reader = grind arith in
    object_text c.args.text.now c.take_begin_object.new.reader first ∙ ap done c.in_ok-members.ensures.ok ∙ ap (if_done (members_view c.in_ok-members.members.entries)) c.in-Some.ensures.value

pub returns-clause-ok : goal.returns-clause-ok
returns-clause-ok c =
    let first : tokens c.args.text.now ≡ Token.begin_object ∷ c.take_begin_object.new.reader = grind arith in
    object_text c.args.text.now c.take_begin_object.new.reader first ∙ ap done c.in_ok-members.ensures.ok ∙ ap (if_done (members_view c.in_ok-members.members.entries)) c.in-None.ensures.value.0
