-- The lines of a script that send a request to the server.
use Rattle.std.proofs.Common.{◌≡◌, ℕ, ◌+◌, ◌-◌, ◌<◌, Bool, List, [], ◌∷◌, ◌++◌, codes, cond, drop, length, map, not, get_or, position, take, Bor, Option, Some, None, refl, sym, ap, arith, ◌∙◌}
use Rattle.std.specs.Prelude.{bytes_eq, nat_lt, option_map}
use Rattle.std.specs.List.{flat_map, prefix_len, position_or_len}
use Rattle.std.proofs.lemmas.List.{drop-map, drop_more, length-drop, length-map, take_all, take-map}
use Rattle.std.proofs.lemmas.List.Folds.{flat_map-map}
use Rattle.drill.specs.Scripts.{Import, Step, asked, post}
use Rattle.text_io.specs.Written.{line}
use Rattle.wire.specs.Asks.{import_tail}

abbrev pub text_of : Bor (List ℕ) → List ℕ
text_of l = l.now

prefix-map : {A B : Type 0} (p : B → Bool) (f : A → B) (xs : List A) → prefix_len p (map f xs) ≡ prefix_len (λ x. p (f x)) xs
prefix-map p f [] = refl
prefix-map p f (x ∷ xs) = ap (λ n. cond (p (f x)) (1 + n) 0) (prefix-map p f xs)

position-map : {A B : Type 0} (p : B → Bool) (f : A → B) (xs : List A) → position p (map f xs) ≡ position (λ x. p (f x)) xs
position-map p f xs =
    ap (λ n. cond (nat_lt n (length (map f xs))) (Some n) None) (prefix-map (λ y. not (p y)) f xs)
    ∙ ap (λ m. cond (nat_lt (position_or_len (λ x. p (f x)) xs) m) (Some (position_or_len (λ x. p (f x)) xs)) None) (length-map xs f)

file_by : List (List ℕ) → Option ℕ → Option (List (List ℕ) × List (List ℕ))
file_by ls o = option_map (λ i. (take i ls, drop (i + 1) ls)) o

abbrev is_dot : Bor (List ℕ) → Bool
is_dot l = bytes_eq l.now (codes ".")

abbrev import_by : List ℕ → List ℕ → List ℕ → Option (List (List ℕ) × List (List ℕ)) → Option (List ℕ × List (List ℕ))
import_by number batch product file = option_map (λ f. (post (number ++ import_tail batch product) (flat_map line f.0), f.1)) file

pub import_unasked : (step : Step) (number batch product : List ℕ) (ls : List (Bor (List ℕ))) → step ≡ Import number batch product → position is_dot ls ≡ None
    → None ≡ asked step (map text_of ls)
unfolding file_by
import_unasked step number batch product ls is none =
    sym (ap (λ s. asked s (map text_of ls)) is
    ∙ ap (λ o. import_by number batch product (file_by (map text_of ls) o)) (position-map (λ l. bytes_eq l (codes ".")) text_of ls ∙ none))

pub import_asked : (step : Step) (number batch product m : List ℕ) (ls : List (Bor (List ℕ))) (i : ℕ) → step ≡ Import number batch product → position is_dot ls ≡ Some i
    → m ≡ post (number ++ import_tail batch product) (flat_map (λ l. line l.now) (take i ls))
    → Some (m, drop (i + 1) (map text_of ls)) ≡ asked step (map text_of ls)
unfolding file_by
import_asked step number batch product m ls i is found made =
    let file : flat_map (λ l. line l.now) (take i ls) ≡ flat_map line (take i (map text_of ls)) = sym (flat_map-map line text_of (take i ls)) ∙ ap (flat_map line) (sym (take-map text_of i ls)) in
    ap (λ x. Some (x, drop (i + 1) (map text_of ls))) (made ∙ ap (post (number ++ import_tail batch product)) file)
    ∙ sym (ap (λ s. asked s (map text_of ls)) is
    ∙ ap (λ o. import_by number batch product (file_by (map text_of ls) o)) (position-map (λ l. bytes_eq l (codes ".")) text_of ls ∙ found))

-- The lines from position `at` on are the line at `at` and the lines after it.
pub here : (ls behind : List (Bor (List ℕ))) (texts : List (List ℕ)) (at : ℕ) (one : Bor (List ℕ)) → map text_of ls ≡ texts → at < length ls → one ≡ get_or ls at one → behind ≡ drop (at + 1) ls
    → drop at texts ≡ one.now ∷ map text_of behind
here ls behind texts at one same within is rest =
    ap (drop at) (sym same) ∙ drop-map text_of at ls ∙ ap (map text_of) (drop_more ls at one within) ∙ ap (λ l. text_of l ∷ map text_of (drop (at + 1) ls)) (sym is)
    ∙ ap (λ ls. one.now ∷ map text_of ls) (sym rest)

pub behind_is : (ls all : List (Bor (List ℕ))) (n : ℕ) → all ≡ ls → take (length all - n) (drop n all) ≡ drop n ls
behind_is ls all n same = take_all (length all - n) (drop n all) (omega (arith, length-drop n all)) ∙ ap (drop n) same
