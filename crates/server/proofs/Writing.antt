-- Lemmas about writing a head and then a body.
use Rattle.std.proofs.Common.{◌≡◌, ◌≤◌, ℕ, List, [], ◌++◌, length, take, Option, sym, ap, subst, ◌∙◌, append_assoc, arith}
use Rattle.std.proofs.lemmas.List.{length-append, take_all}
use Rattle.text_io.specs.Written.{AppendsBeginning}

-- a prefix of the head is a prefix of head and body together
pub begins_both : (before after : Option (List ℕ)) (head body : List ℕ) → AppendsBeginning before after head → AppendsBeginning before after (head ++ body)
begins_both before after head body (front, back, whole, appends) =
    (front, back ++ body, sym (append_assoc front back body) ∙ ap (λ (l : List ℕ). l ++ body) whole, appends)

-- head and body both fit in one text
pub joined : (head body : List ℕ) (none front whole : List ℕ) → none ≡ [] → front ≡ take 1024 (none ++ head) → whole ≡ take 1024 (front ++ body) → length head ≤ 256 → length body ≤ 768 → whole ≡ head ++ body
joined head body none front whole empty first second small short =
    let at_front : front ≡ head = first ∙ ap (λ (l : List ℕ). take 1024 (l ++ head)) empty ∙ take_all 1024 head (omega arith) in
    let fits : length (head ++ body) ≤ 1024 = subst (λ (n : ℕ). n ≤ 1024) (sym (length-append head body)) (omega arith) in
    second ∙ ap (λ (l : List ℕ). take 1024 (l ++ body)) at_front ∙ take_all 1024 (head ++ body) fits
