use Rattle.std.proofs.Common.{◌≡◌, ◌∙◌, None, Some, option_map, sym, ap}
use Rattle.serde_json.specs.View.{view}
use Rattle.arrivals.specs.Values.{value_of}
use Rattle.wire.specs.ReplyReading.{reply_in}
use Rattle.wire.proofs.ParseLemmas.{other_reply, reply_is_found, same_value, value_is_found}
use Rattle.wire.proofs.parse.parse_reply.Goals as goal

pub returns-in_default-clause-found : goal.returns-in_default-clause-found
returns-in_default-clause-found c r ranged is =
    let found = value_is_found c.args.bytes.now c.body_in.result.now (option_map view c.in_ok-value.field-0) r ranged is c.body_in.ensures.few c.body_in.ensures.body c.in_ok-value.ensures in
    let none : None ≡ Some (value_of r) = rw c.in_default.is at found in cc

pub returns-in_default-2-clause-found : goal.returns-in_default-2-clause-found
returns-in_default-2-clause-found c r ranged is =
    let found = value_is_found c.args.bytes.now c.body_in.result.now (option_map view c.in_ok-value.field-0) r ranged is c.body_in.ensures.few c.body_in.ensures.body c.in_ok-value.ensures in
    let value : Some (view c.in-Some.value) ≡ Some (value_of r) = rw c.in-Some.is at found in
    sym c.in_default-2.is ∙ c.in_ok-reply.ensures.value ∙ ap reply_in (same_value _ _ value) ∙ reply_is_found r ranged

pub returns-then-branch-clause-found : goal.returns-then-branch-clause-found
returns-then-branch-clause-found c r ranged is =
    let found = value_is_found c.args.bytes.now c.body_in.result.now (option_map view c.in_ok-value.field-0) r ranged is c.body_in.ensures.few c.body_in.ensures.body c.in_ok-value.ensures in
    let value : Some (view c.in-Some.value) ≡ Some (value_of r) = rw c.in-Some.is at found in
    sym c.in-Some-2.is ∙ c.in_ok-reply.ensures.value ∙ ap reply_in (same_value _ _ value) ∙ reply_is_found r ranged

pub returns-clause-found : goal.returns-clause-found
returns-clause-found c r ranged is =
    let found = value_is_found c.args.bytes.now c.body_in.result.now (option_map view c.in_ok-value.field-0) r ranged is c.body_in.ensures.few c.body_in.ensures.body c.in_ok-value.ensures in
    let value : Some (view c.in-Some.value) ≡ Some (value_of r) = rw c.in-Some.is at found in
    let same : Some c.in-Some-2.reply ≡ Some r = sym c.in-Some-2.is ∙ c.in_ok-reply.ensures.value ∙ ap reply_in (same_value _ _ value) ∙ reply_is_found r ranged in
    absurd (other_reply c.args.bytes.now c.in-Some-2.reply r c.in_ok-is_text_of.field-0 same c.if-branch.false c.in_ok-is_text_of.ensures.1 is)
