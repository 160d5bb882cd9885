-- A line has a flaw if and only if it contains no card.
use Rattle.std.proofs.Common.{◌≡◌, Bor, ◌-◌, ◌^◌, ◌==◌, ◌||◌, ℕ, Bool, true, false, List, [], ◌∷◌, length, map, drop, Option, Some, None, refl, sym, ap, ◌∙◌, inl, inr, zero, suc, arith}
use Rattle.std.specs.Prelude.{◌↔◌, ◌&&◌, IsSome, bytes_eq, nat_le, codes, if◌then◌else◌, nat_eq, not, option_and_then, option_map}
use Rattle.std.specs.Bool.{then_some}
use Rattle.std.specs.Option.{is_some}
use Rattle.std.specs.List.{ends_with, list_all, list_any, onto_first, slice_split}
use Rattle.std.specs.Char.{is_ascii_digit, is_ascii_hexdigit}
use Rattle.std.specs.Str.Parse.{digits_value}
use Rattle.std.proofs.lemmas.Bool.{and_left, and_right, cond_both, eqb-true, or_cases}
use Rattle.std.proofs.lemmas.Slice.Eq.{bytes_eq-Decides}
use Rattle.text_io.specs.Numbers.{is_word, number_in, number_within, status_word, within}
use Rattle.text_io.specs.Lines.{words}
use Rattle.feeding.specs.declared.flaw.Flaw.{Flaw}
use Rattle.feeding.specs.declared.flaw.Flaw.TheVariants.{Empty, EndsInCr, Space, Serial, Word}
use Rattle.feeding.specs.Cards.{Card, all_of, card_by, card_of, new_card}
use Rattle.feeding.specs.Flaws.{flaw_among, flaw_by, flaw_of}

-- ---- words

abbrev serial_in : List ℕ → Option ℕ
serial_in w = number_within 0 (10 ^ 18 - 1) w

abbrev not_word : List ℕ → Bool
not_word w = not (is_word w)

map_is_some : {A B : Type 0} (f : A → B) (o : Option A) → is_some (option_map f o) ≡ is_some o
map_is_some f None = refl
map_is_some f (Some x) = refl

-- the flaw of the words after the serial number, if `any` of them isn't a status word
abbrev word_flaw : Bool → Option Flaw
word_flaw any = if any then Some Word else None

one_word : (is : Bool) (v : ℕ) (any : Bool) (o : Option (List ℕ)) → is_some (word_flaw any) ≡ not (is_some o)
    → is_some (word_flaw (not is || any)) ≡ not (is_some (option_and_then (λ x. option_map (λ xs. x ∷ xs) o) (if is then Some v else None)))
one_word true v any o so = so ∙ ap not (sym (map_is_some (λ xs. v ∷ xs) o))
one_word false v any o so = refl

rest_law : (ws : List (List ℕ)) → is_some (word_flaw (list_any not_word ws)) ≡ not (is_some (all_of (map status_word ws)))
rest_law [] = refl
rest_law (w ∷ ws) = one_word (is_word w) _ (list_any not_word ws) (all_of (map status_word ws)) (rest_law ws)

first_law : (o : Option ℕ) (any : Bool) (words : Option (List ℕ)) → is_some (word_flaw any) ≡ not (is_some words)
    → is_some (if not (is_some o) then Some Serial else word_flaw any) ≡ not (is_some (option_and_then (λ serial. option_map (λ ws. new_card ws serial) words) o))
first_law None any words so = refl
first_law (Some serial) any words so = so ∙ ap not (sym (map_is_some (λ ws. new_card ws serial) words))

by_law : (ws : List (List ℕ)) → is_some (flaw_by ws) ≡ not (is_some (card_by ws))
by_law [] = refl
by_law (first ∷ rest) = first_law (serial_in first) (list_any not_word rest) (all_of (map status_word rest)) (rest_law rest)

-- ---- words without a value

any_more : {X : Type 0} (p q : X → Bool) (xs : List X) → ((x : X) → p x ≡ true → q x ≡ true) → list_any p xs ≡ true → list_any q xs ≡ true
any_more p q [] more any = any
any_more p q (x ∷ xs) more any =
    elim (or_cases (p x) (list_any p xs) any) [
      | inl here ↦ ap (λ b. b || list_any q xs) (more x here)
      | inr there ↦ later (q x) (any_more p q xs more there)
    ]
  where
    later : (b : Bool) → list_any q xs ≡ true → (b || list_any q xs) ≡ true
    later true h = refl
    later false h = h

-- no word that satisfies `bad` is a serial number or a status word
record SpellsNothing (bad : List ℕ → Bool) : Type 0 where
  serial : (w : List ℕ) → bad w ≡ true → serial_in w ≡ None
  word : (w : List ℕ) → bad w ≡ true → not_word w ≡ true

serial_flaw : (o : Option ℕ) (any : Bool) → o ≡ None → is_some (if not (is_some o) then Some Serial else word_flaw any) ≡ true
serial_flaw o any none = ap (λ x. is_some (if not (is_some x) then Some Serial else word_flaw any)) none

later_flaw : (o : Option ℕ) (any : Bool) → any ≡ true → is_some (if not (is_some o) then Some Serial else word_flaw any) ≡ true
later_flaw None any is = refl
later_flaw (Some s) any is = ap (λ b. is_some (word_flaw b)) is

bad_words : (bad : List ℕ → Bool) → SpellsNothing bad → (ws : List (List ℕ)) → list_any bad ws ≡ true → is_some (flaw_by ws) ≡ true
bad_words bad h [] any = refl
bad_words bad h (first ∷ rest) any =
    elim (or_cases (bad first) (list_any bad rest) any) [
      | inl here ↦ serial_flaw (serial_in first) (list_any not_word rest) (h.serial first here)
      | inr there ↦ later_flaw (serial_in first) (list_any not_word rest) (any_more bad not_word rest h.word there)
    ]

-- A word isn't a number if one of its bytes isn't a digit.
no_number : (w : List ℕ) (is : Bool) → bytes_eq w (codes "0") ≡ is → list_all is_ascii_digit w ≡ false → (if is then Some 0 else number_in w) ≡ None
no_number w true same not_all =
    let is : w ≡ codes "0" = (bytes_eq-Decides w (codes "0")).0 same in
    let no : true ≡ false = sym (ap (list_all is_ascii_digit) is) ∙ not_all in
    cc
no_number w false same not_all = ap (λ b. if b then Some (digits_value 10 w) else None) (and_left _ _ (and_right (nat_le 1 (length w) && nat_le (length w) 18) (list_all is_ascii_digit w) not_all))

no_serial : (w : List ℕ) → list_all is_ascii_digit w ≡ false → serial_in w ≡ None
no_serial w not_all = ap (option_and_then (within 0 (10 ^ 18 - 1))) (no_number w (bytes_eq w (codes "0")) refl not_all)

no_word : (w : List ℕ) → list_all is_ascii_hexdigit w ≡ false → not_word w ≡ true
no_word w not_all = ap not (and_right (length w == 4) (list_all is_ascii_hexdigit w) not_all)

-- If a word contains the byte `c` and `c` fails a test, not all bytes of the word pass it.
one_fails : (c : ℕ) (test : ℕ → Bool) (w : List ℕ) → test c ≡ false → list_any (λ b. b == c) w ≡ true → list_all test w ≡ false
one_fails c test [] fails any = let no : false ≡ true = any in cc
one_fails c test (x ∷ xs) fails any =
    elim (or_cases (x == c) (list_any (λ b. b == c) xs) any) [
      | inl here ↦ and_left (test x) (list_all test xs) (ap test (eqb-true x c here) ∙ fails)
      | inr there ↦ and_right (test x) (list_all test xs) (one_fails c test xs fails there)
    ]

abbrev is_empty : List ℕ → Bool
is_empty w = length w == 0

empty_is : (w : List ℕ) → is_empty w ≡ true → w ≡ []
empty_is [] is = refl
empty_is (x ∷ xs) is = let never : suc (length xs) ≡ 0 = eqb-true (length (x ∷ xs)) 0 is in absurd (omega (arith, never))

empty_spells : SpellsNothing is_empty
empty_spells = record { serial = λ w is. ap serial_in (empty_is w is); word = λ w is. ap not_word (empty_is w is) }

abbrev has_cr : List ℕ → Bool
has_cr w = list_any (λ b. b == 13) w

cr_spells : SpellsNothing has_cr
cr_spells = record { serial = λ w has. no_serial w (one_fails 13 is_ascii_digit w refl has); word = λ w has. no_word w (one_fails 13 is_ascii_hexdigit w refl has) }

-- ---- the word with the CR of a line

any_onto : (x : ℕ) (b : Bool) (ws : List (List ℕ)) → (x == 13) ≡ b → (b || list_any has_cr ws) ≡ true → list_any has_cr (onto_first x ws) ≡ true
any_onto x b [] is any = first_or b (x == 13) is any
  where
    first_or : (b c : Bool) → c ≡ b → (b || false) ≡ true → ((c || false) || false) ≡ true
    first_or true c is any = ap (λ d. (d || false) || false) is
    first_or false c is any = let no : false ≡ true = any in cc
any_onto x b (w ∷ ws) is any = moved b (x == 13) (has_cr w) (list_any has_cr ws) is any
  where
    moved : (b c d e : Bool) → c ≡ b → (b || (d || e)) ≡ true → ((c || d) || e) ≡ true
    moved true c d e is any = ap (λ k. (k || d) || e) is
    moved false c d e is any = ap (λ k. (k || d) || e) is ∙ any

split_any : (xs : List ℕ) → has_cr xs ≡ true → list_any has_cr (slice_split (λ b. b == 32) xs) ≡ true
split_any [] any = let no : false ≡ true = any in cc
split_any (x ∷ xs) any =
    let parts = slice_split (λ b. b == 32) xs in
    cond_both (x == 32) ([] ∷ parts) (onto_first x parts) (λ ws. list_any has_cr ws ≡ true)
    (λ space. split_any xs (behind (has_cr xs) x (eqb-true x 32 space) any))
    (λ other. any_onto x (x == 13) parts refl (kept (x == 13) (has_cr xs) (list_any has_cr parts) (split_any xs) any))
  where
    behind : (b : Bool) (y : ℕ) → y ≡ 32 → ((y == 13) || b) ≡ true → b ≡ true
    behind b y is was = sym (ap (λ z. (z == 13) || b) is) ∙ was

    kept : (b c d : Bool) → (c ≡ true → d ≡ true) → (b || c) ≡ true → (b || d) ≡ true
    kept true c d more was = refl
    kept false c d more was = more was

any_dropped : (n : ℕ) (xs : List ℕ) → has_cr (drop n xs) ≡ true → has_cr xs ≡ true
any_dropped zero xs any = any
any_dropped (suc n) [] any = any
any_dropped (suc n) (x ∷ xs) any = or_any (x == 13) (any_dropped n xs any)
  where
    or_any : (b : Bool) → has_cr xs ≡ true → (b || has_cr xs) ≡ true
    or_any true h = refl
    or_any false h = h

ends_any : (line : List ℕ) → ends_with nat_eq line (codes "\r") ≡ true → has_cr line ≡ true
ends_any line ends =
    let end = drop (length line - 1) line in
    let is : codes "\r" ≡ end = (bytes_eq-Decides (codes "\r") end).0 ends in any_dropped (length line - 1) line (sym (ap has_cr is))

-- ---- a line

spells_nothing : (bad : List ℕ → Bool) → SpellsNothing bad → (ws : List (List ℕ)) → list_any bad ws ≡ true → true ≡ not (is_some (card_by ws))
spells_nothing bad h ws any = sym (bad_words bad h ws any) ∙ by_law ws

line_law : (line : List ℕ) → is_some (flaw_of line) ≡ not (is_some (card_of line))
line_law line =
    let ws = words line in
    let P : Option Flaw → Type 0 = λ o. is_some o ≡ not (is_some (card_by ws)) in
    cond_both (length line == 0) (Some Empty) (if ends_with nat_eq line (codes "\r") then Some EndsInCr else flaw_among ws) P
    (λ none. sym (ap (λ l. not (is_some (card_of l))) (empty_is line none)))
    (λ some. cond_both (ends_with nat_eq line (codes "\r")) (Some EndsInCr) (flaw_among ws) P
    (λ ends. spells_nothing has_cr cr_spells ws (split_any line (ends_any line ends)))
    (λ other. cond_both (list_any is_empty ws) (Some Space) (flaw_by ws) P (λ spaces. spells_nothing is_empty empty_spells ws spaces) (λ none. by_law ws)))

no_card : (o : Option Card) → not (is_some o) ≡ true → o ≡ None
no_card None none = refl
no_card (Some c) none = let never : false ≡ true = none in cc

pub flaw_law : (line : List ℕ) → IsSome (flaw_of line) ↔ (card_of line ≡ None)
flaw_law line = (λ has. no_card (card_of line) (sym (line_law line) ∙ has), λ none. line_law line ∙ ap (λ o. not (is_some o)) none)

-- ---- words by reference

pub any_now : (test : List ℕ → Bool) (ws : List (Bor (List ℕ))) → list_any (λ (w : Bor (List ℕ)). test w.now) ws ≡ list_any test (map (λ (w : Bor (List ℕ)). w.now) ws)
any_now test [] = refl
any_now test (w ∷ ws) = ap (λ b. test w.now || b) (any_now test ws)

some_is : (b : Bool) → then_some b Word ≡ word_flaw b
some_is true = refl
some_is false = refl

pub flaw_read : (ws : List (Bor (List ℕ))) (first : Bor (List ℕ)) (rest : List (Bor (List ℕ))) (o : Option ℕ) (other : Bool) → ws ≡ first ∷ rest → o ≡ serial_in first.now → is_some o ≡ true
    → other ≡ list_any (λ (w : Bor (List ℕ)). not (is_word w.now)) rest → then_some other Word ≡ flaw_by (map (λ (w : Bor (List ℕ)). w.now) ws)
flaw_read ws first rest None other is number there others = let never : false ≡ true = there in cc
flaw_read ws first rest (Some s) other is number there others =
    let by = λ (o : Option ℕ) (any : Bool). if not (is_some o) then Some Serial else word_flaw any in
    some_is other ∙ ap word_flaw (others ∙ any_now not_word rest) ∙ ap (λ o. by o (list_any not_word (map (λ (w : Bor (List ℕ)). w.now) rest))) number
    ∙ sym (ap (λ l. flaw_by (map (λ (w : Bor (List ℕ)). w.now) l)) is)

pub flaw_seen : (line : List ℕ) (found : List (Bor (List ℕ))) (any : Bool) → (length line == 0) ≡ false → ends_with nat_eq line (codes "\r") ≡ false → map (λ (w : Bor (List ℕ)). w.now) found ≡ words line
    → any ≡ list_any (λ (w : Bor (List ℕ)). length w.now == 0) found → (if any then Some Space else flaw_by (map (λ (w : Bor (List ℕ)). w.now) found)) ≡ flaw_of line
flaw_seen line found any some other same is =
    ap (λ b. if b then Some Space else flaw_by (map (λ (w : Bor (List ℕ)). w.now) found)) (is ∙ any_now is_empty found) ∙ ap flaw_among same
    ∙ sym (ap (λ b. if b then Some Empty else (if ends_with nat_eq line (codes "\r") then Some EndsInCr else flaw_among (words line))) some
    ∙ ap (λ b. if b then Some EndsInCr else flaw_among (words line)) other)
