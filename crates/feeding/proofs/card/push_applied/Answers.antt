use Rattle.std.proofs.Common.{◌≡◌, ◌∷◌, ◌++◌, ◌∙◌, OnOk, subst}
use Rattle.hex.specs.Hex.{encode_upper}
use Rattle.wire.specs.Sending.{word_text}
use Rattle.feeding.specs.Cards.{card_line}
use Rattle.feeding.proofs.Words.{joined}
use Rattle.feeding.proofs.card.push_applied.Goals as goal

pub returns : goal.returns
returns c =
    let content : c.as_slice.result.now ≡ encode_upper c.args.command.now ++ 32 ∷ word_text c.args.sw = c.as_slice.ensures.value
    ∙ joined (encode_upper c.args.command.now) (word_text c.args.sw) c.in_ok-content.content.items c.push.new.self.items c.extend_from_slice.new.self.items
    (c.in_ok-content.ensures.items ∙ c.as_bytes.ensures.value ∙ c.in_ok-command.ensures) c.in_ok-push.ensures.items
    (subst (λ w. c.extend_from_slice.new.self.items ≡ c.push.new.self.items ++ w) (c.as_bytes-2.ensures.value ∙ c.in_ok-word.ensures) c.in_ok-extend_from_slice.ensures.items) in
    subst (λ t. OnOk c.push_line.result (c.push_line.new.text.items ≡ c.args.text.now.items ++ card_line c.args.serial t)) content c.push_line.ensures
