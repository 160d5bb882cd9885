-- Lemmas about joined texts.
use Rattle.std.proofs.Common.{◌≡◌, ℕ, List, ◌++◌, ◌∙◌}

-- one text, followed by another
pub then : {before text after piece last : List ℕ} → before ≡ text → after ≡ before ++ piece → piece ≡ last → after ≡ text ++ last
then front put is = put ∙ λ i. front i ++ is i
