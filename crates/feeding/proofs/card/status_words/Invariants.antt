use Rattle.std.proofs.Common.{◌≡◌, map, drop}
use Rattle.feeding.specs.Cards.{all_of}
use Rattle.feeding.proofs.Words.{spelled, with_rest}
use Rattle.feeding.proofs.card.status_words.Given as goal

abbrev pub invariant-loop-text : goal.invariant-loop-text
invariant-loop-text l = all_of (map spelled l.texts) ≡ with_rest l.words.items (all_of (map spelled (drop l.text-index l.texts)))
