-- The next card is taken from the remaining lines, one line at a time.
use Rattle.std.proofs.Common.{◌≡◌, ◌<◌, ◌+◌, List, ◌∷◌, ℕ, length, map, drop, get_or, Bor, sym, ap, ◌∙◌}
use Rattle.std.proofs.lemmas.List.{drop_more}

abbrev pub line_text : Bor (List ℕ) → List ℕ
line_text l = l.now

-- ---- the remaining lines

pub next_line : (ls : List (Bor (List ℕ))) (at : ℕ) (one : Bor (List ℕ)) → at < length ls → one ≡ get_or ls at one → map line_text (drop at ls) ≡ one.now ∷ map line_text (drop (at + 1) ls)
next_line ls at one within is = ap (map line_text) (drop_more ls at one within) ∙ ap (λ l. line_text l ∷ map line_text (drop (at + 1) ls)) (sym is)
