-- The words of a line, and the text of an output line.
use Rattle.std.proofs.Common.{◌≡◌, ◌≤◌, ◌<◌, ◌^◌, ◌-◌, ◌+◌, ℕ, List, [], ◌∷◌, ◌++◌, length, map, drop, get_or, Bor, Option, Some, None, sym, refl, ap, ◌∙◌, append_assoc, append-nil}
use Rattle.std.specs.Prelude.{option_map, option_and_then}
use Rattle.std.proofs.lemmas.List.{drop_all, drop_more}
use Rattle.text_io.specs.Lines.{words}
use Rattle.text_io.specs.Numbers.{number_within, status_word}
use Rattle.feeding.specs.Cards.{Card, all_of, card_by, card_of, new_card}

abbrev pub word_bytes : Bor (List ℕ) → List ℕ
word_bytes t = t.now

abbrev pub spelled : Bor (List ℕ) → Option ℕ
spelled t = status_word t.now

-- the values `ws` followed by the remaining values, if none of those is missing
abbrev pub with_rest : List ℕ → Option (List ℕ) → Option (List ℕ)
with_rest ws o = option_map (λ rest. ws ++ rest) o

pub words_none : (o : Option (List ℕ)) → o ≡ with_rest [] o
words_none None = refl
words_none (Some xs) = refl

pushed : (ws : List ℕ) (w : ℕ) (o : Option (List ℕ)) → with_rest ws (option_map (λ xs. w ∷ xs) o) ≡ with_rest (ws ++ w ∷ []) o
pushed ws w None = refl
pushed ws w (Some xs) = ap Some (sym (append_assoc ws (w ∷ []) xs))

here : (ts : List (Bor (List ℕ))) (i : ℕ) (t : Bor (List ℕ)) → i < length ts → t ≡ get_or ts i t → all_of (map spelled (drop i ts)) ≡ all_of (spelled t ∷ map spelled (drop (i + 1) ts))
here ts i t within is = ap (λ xs. all_of (map spelled xs)) (drop_more ts i t within) ∙ ap (λ x. all_of (spelled x ∷ map spelled (drop (i + 1) ts))) (sym is)

pub words_more : (all : Option (List ℕ)) (ts : List (Bor (List ℕ))) (i : ℕ) (t : Bor (List ℕ)) (ws : List ℕ) (w : ℕ) → i < length ts → t ≡ get_or ts i t → spelled t ≡ Some w
    → all ≡ with_rest ws (all_of (map spelled (drop i ts))) → all ≡ with_rest (ws ++ w ∷ []) (all_of (map spelled (drop (i + 1) ts)))
words_more all ts i t ws w within is word so_far =
    let rest = all_of (map spelled (drop (i + 1) ts)) in
    so_far ∙ ap (with_rest ws) (here ts i t within is ∙ ap (option_and_then (λ x. option_map (λ xs. x ∷ xs) rest)) word) ∙ pushed ws w rest

pub words_bad : (all : Option (List ℕ)) (ts : List (Bor (List ℕ))) (i : ℕ) (t : Bor (List ℕ)) (ws : List ℕ) → i < length ts → t ≡ get_or ts i t → spelled t ≡ None
    → all ≡ with_rest ws (all_of (map spelled (drop i ts))) → all ≡ None
words_bad all ts i t ws within is bad so_far =
    let rest = all_of (map spelled (drop (i + 1) ts)) in
    so_far ∙ ap (with_rest ws) (here ts i t within is ∙ ap (option_and_then (λ x. option_map (λ xs. x ∷ xs) rest)) bad)

pub words_all : (all : Option (List ℕ)) (ts : List (Bor (List ℕ))) (i : ℕ) (ws : List ℕ) → length ts ≤ i → all ≡ with_rest ws (all_of (map spelled (drop i ts))) → all ≡ Some ws
words_all all ts i ws end so_far =
    so_far ∙ ap (λ xs. with_rest ws (all_of (map spelled xs))) (drop_all i ts end) ∙ ap Some (append-nil ws)

-- ---- the text of a line

pub joined : (a b first second third : List ℕ) → first ≡ a → second ≡ first ++ 32 ∷ [] → third ≡ second ++ b → third ≡ a ++ 32 ∷ b
joined a b first second third one two three = three ∙ ap (λ t. t ++ b) (two ∙ ap (λ t. t ++ 32 ∷ []) one) ∙ append_assoc a (32 ∷ []) b

-- ---- the card of a line

fused : (ts : List (Bor (List ℕ))) → all_of (map status_word (map word_bytes ts)) ≡ all_of (map spelled ts)
fused [] = refl
fused (t ∷ ts) = ap (λ o. option_and_then (λ x. option_map (λ xs. x ∷ xs) o) (spelled t)) (fused ts)

-- the card with this serial number and these status words, if both were parsed
abbrev pub card_with : Option ℕ → Option (List ℕ) → Option Card
card_with serial ws = option_and_then (λ s. option_map (λ xs. new_card xs s) ws) serial

pub card_read : (text : List ℕ) (found : List (Bor (List ℕ))) (first : Bor (List ℕ)) (rest : List (Bor (List ℕ))) → map word_bytes found ≡ words text → found ≡ first ∷ rest
    → card_of text ≡ card_with (number_within 0 (10 ^ 18 - 1) first.now) (all_of (map spelled rest))
card_read text found first rest same is =
    ap card_by (sym same) ∙ ap (λ ws. card_by (map word_bytes ws)) is ∙ ap (card_with (number_within 0 (10 ^ 18 - 1) first.now)) (fused rest)

-- If the serial number was parsed, the parsed status words determine the card of the line.
pub card_made : (text : List ℕ) (found : List (Bor (List ℕ))) (first : Bor (List ℕ)) (rest : List (Bor (List ℕ))) (serial : ℕ) (ws : Option (List ℕ)) → map word_bytes found ≡ words text
    → found ≡ first ∷ rest → number_within 0 (10 ^ 18 - 1) first.now ≡ Some serial → ws ≡ all_of (map spelled rest) → option_map (λ xs. new_card xs serial) ws ≡ card_of text
card_made text found first rest serial ws same is number spells =
    ap (card_with (Some serial)) spells ∙ sym (ap (λ o. card_with o (all_of (map spelled rest))) number) ∙ sym (card_read text found first rest same is)
