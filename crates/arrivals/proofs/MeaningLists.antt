-- Lemmas about lists of arrivals, and about repeats.
use Rattle.std.proofs.Common.{◌≡◌, ◌≤◌, ◌==◌, ◌&&◌, ◌||◌, ℕ, Bool, true, false, cond, List, [], ◌∷◌, ◌++◌, map, Option, Some, None, refl, sym, ap, ◌∙◌, inl, inr, append_assoc, arith}
use Rattle.std.specs.Prelude.{bytes_eq, is_some, nat_le, nat_lt}
use Rattle.std.proofs.lemmas.Bool.{and_parts, cases_Bool, eqb-true, leb-false, ltb-false}
use Rattle.std.proofs.lemmas.Bool.Decides.{nat_tests}
use Rattle.std.proofs.lemmas.List.{map-append}
use Rattle.std.proofs.lemmas.List.Elements.{filter-append}
use Rattle.std.proofs.lemmas.Slice.Eq.{bytes_eq-Decides}
use Rattle.job_facts.specs.Facts.{Facts}
use Rattle.job_facts.specs.Contents.{Contents, Entry, Mark, above, entry_of, is_above, mark_of}
use Rattle.arrivals.specs.Laws.{AreAbove}
use Rattle.arrivals.specs.Meaning.{Arrived, Number, contents_after, contents_with, entries_of, entry_with, facts_after, facts_with, firsts, is_among, is_released, marks_after, marks_with, number_of, reply_to, told}
use Rattle.arrivals.proofs.MeaningLemmas.{above_after, among_kept, contents_new, contents_old, contents_released, marks_grow, same_contents}

abbrev key : Arrived → Number
key a = (a.client, a.number)

-- ---- release marks after a list

pub released_before : (marks now : List Mark) (x : Arrived) → ((n : List ℕ) → mark_of marks n ≤ mark_of now n) → is_released now x ≡ false → is_released marks x ≡ false
released_before marks now x grow live = grind (arith, nat_tests, grow x.client)

marks_after_grow : (marks : List Mark) (xs : List Arrived) (n : List ℕ) → mark_of marks n ≤ mark_of (marks_after marks xs) n
marks_after_grow marks [] n = omega arith
marks_after_grow marks (x ∷ xs) n = omega (arith, marks_grow marks x n, marks_after_grow (marks_with marks x) xs n)

-- both lists contain the same numbers, except released ones
abbrev Agree : List Mark → List Number → List Number → Type 0
Agree marks ns ms = (x : Arrived) → is_released marks x ≡ false → is_among ns x ≡ is_among ms x

among_append : (ns ms : List Number) (x : Arrived) → is_among (ns ++ ms) x ≡ (is_among ns x || is_among ms x)
among_append [] ms x = refl
among_append (n ∷ ns) ms x = elim (cases_Bool (bytes_eq n.0 x.client && (n.1 == x.number))) [
  | inl hit ↦ ap (λ b. b || is_among (ns ++ ms) x) hit ∙ sym (ap (λ b. (b || is_among ns x) || is_among ms x) hit)
  | inr miss ↦ ap (λ b. b || is_among (ns ++ ms) x) miss ∙ among_append ns ms x ∙ sym (ap (λ b. (b || is_among ns x) || is_among ms x) miss)
]

agree_more : (marks now : List Mark) (ns ms : List Number) (n : Number) → ((c : List ℕ) → mark_of marks c ≤ mark_of now c) → Agree marks ns ms → Agree now (ns ++ n ∷ []) (ms ++ n ∷ [])
agree_more marks now ns ms n grow agree x live =
    among_append ns (n ∷ []) x ∙ ap (λ b. b || is_among (n ∷ []) x) (agree x (released_before marks now x grow live)) ∙ sym (among_append ms (n ∷ []) x)

firsts_same : (marks : List Mark) (ns ms : List Number) (xs : List Arrived) → Agree marks ns ms → firsts ns marks xs ≡ firsts ms marks xs
firsts_same marks ns ms [] agree = refl
firsts_same marks ns ms (x ∷ xs) agree =
    let rest : firsts ns marks xs ≡ firsts ms marks xs = firsts_same marks ns ms xs agree in
    let more : firsts (ns ++ key x ∷ []) (marks_with marks x) xs ≡ firsts (ms ++ key x ∷ []) (marks_with marks x) xs =
    firsts_same (marks_with marks x) (ns ++ key x ∷ []) (ms ++ key x ∷ []) xs (agree_more marks (marks_with marks x) ns ms (key x) (marks_grow marks x) agree) in
    elim (cases_Bool (is_released marks x)) [
      | inl gone ↦ ap (λ b. cond (b || is_among ns x) (firsts ns marks xs) (x ∷ firsts (ns ++ key x ∷ []) (marks_with marks x) xs)) gone ∙ rest
          ∙ sym (ap (λ b. cond (b || is_among ms x) (firsts ms marks xs) (x ∷ firsts (ms ++ key x ∷ []) (marks_with marks x) xs)) gone)
      | inr live ↦ ap (λ b. cond (is_released marks x || b) (firsts ns marks xs) (x ∷ firsts (ns ++ key x ∷ []) (marks_with marks x) xs)) (agree x live)
          ∙ ap (λ r. cond (is_released marks x || is_among ms x) r (x ∷ firsts (ns ++ key x ∷ []) (marks_with marks x) xs)) rest
          ∙ ap (λ r. cond (is_released marks x || is_among ms x) (firsts ms marks xs) (x ∷ r)) more
    ]

-- the numbers of discarded entries are released
agree_above : (marks : List Mark) (es : List Entry) → Agree marks (map number_of es) (map number_of (above marks es))
agree_above marks [] x live = refl
agree_above marks (e ∷ es) x live =
    let rest = agree_above marks es x live in
    let hit : Bool = bytes_eq e.client x.client && (e.number == x.number) in
    elim (cases_Bool (is_above marks e)) [
      | inl kept ↦ ap (λ b. hit || b) rest ∙ sym (ap (λ b. is_among (map number_of (cond b (e ∷ above marks es) (above marks es))) x) kept)
      | inr gone ↦
          let none : hit ≡ false = elim (cases_Bool hit) [
            | inr miss ↦ miss
            | inl both ↦
                let parts = and_parts (bytes_eq e.client x.client) (e.number == x.number) both in
                let client : e.client ≡ x.client = (bytes_eq-Decides e.client x.client).0 parts.0 in
                let number : e.number ≡ x.number = eqb-true e.number x.number parts.1 in
                let over : is_above marks e ≡ nat_lt (mark_of marks x.client) x.number = ap (λ c. nat_lt (mark_of marks c) e.number) client ∙ ap (nat_lt (mark_of marks x.client)) number in
                absurd (apart (mark_of marks x.client) x.number (sym over ∙ gone) live)
          ] in
          ap (λ b. b || is_among (map number_of es) x) none ∙ rest ∙ sym (ap (λ b. is_among (map number_of (cond b (e ∷ above marks es) (above marks es))) x) gone)
    ]
  where
    apart : (mark number : ℕ) → nat_lt mark number ≡ false → nat_le number mark ≡ false → ⊥
    apart mark number low high = omega (arith, leb-false number mark high, ltb-false mark number low)

-- ---- one arrival before others

above_twice : (marks now : List Mark) (es : List Entry) → ((n : List ℕ) → mark_of marks n ≤ mark_of now n) → above now (above marks es) ≡ above now es
above_twice marks now [] grow = refl
above_twice marks now (e ∷ es) grow = elim (cases_Bool (is_above marks e)) [
  | inl kept ↦ ap (λ b. above now (cond b (e ∷ above marks es) (above marks es))) kept ∙ ap (λ r. cond (is_above now e) (e ∷ r) r) (above_twice marks now es grow)
  | inr gone ↦
      let also : is_above now e ≡ false = grind (arith, nat_tests, grow e.client) in
      ap (λ b. above now (cond b (e ∷ above marks es) (above marks es))) gone ∙ above_twice marks now es grow ∙ sym (ap (λ b. cond b (e ∷ above now es) (above now es)) also)
]

-- the contents with these facts, entries and marks after the arrivals `new`
abbrev built : Facts → List Mark → List Entry → List Arrived → Contents
built f marks kept new = let now = marks_after marks new in record { facts = facts_after f new; kept = above now (kept ++ entries_of f marks new); marks = now }

built_above : (f : Facts) (marks : List Mark) (kept : List Entry) (new : List Arrived) → built f marks (above marks kept) new ≡ built f marks kept new
built_above f marks kept new =
    let now = marks_after marks new in
    let es = entries_of f marks new in
    ap (λ (k : List Entry). record { facts = facts_after f new; kept = k; marks = now })
    (filter-append (is_above now) (above marks kept) es ∙ ap (λ k. k ++ above now es) (above_twice marks now kept (marks_after_grow marks new)) ∙ sym (filter-append (is_above now) kept es))

-- ---- the arrivals with a new number

abbrev news : Contents → List Arrived → List Arrived
news c xs = firsts (map number_of c.kept) c.marks xs

released_adds_none : (c : Contents) (a : Arrived) (xs : List Arrived) → is_released c.marks a ≡ true → news c (a ∷ xs) ≡ news c xs
released_adds_none c a xs gone =
    let ns = map number_of c.kept in
    ap (λ b. cond (b || is_among ns a) (firsts ns c.marks xs) (a ∷ firsts (ns ++ key a ∷ []) (marks_with c.marks a) xs)) gone

old_adds_none : (c : Contents) (a : Arrived) (xs : List Arrived) (e : Entry) → is_released c.marks a ≡ false → entry_of c.kept a.client a.number ≡ Some e → news c (a ∷ xs) ≡ news c xs
old_adds_none c a xs e live some =
    let ns = map number_of c.kept in
    let new = a ∷ firsts (ns ++ key a ∷ []) (marks_with c.marks a) xs in
    ap (λ b. cond (b || is_among ns a) (firsts ns c.marks xs) new) live
    ∙ ap (λ b. cond b (firsts ns c.marks xs) new) (among_kept c.kept a ∙ ap (λ (o : Option Entry). is_some o) some)

new_is_first : (c : Contents) (a : Arrived) (xs : List Arrived) → is_released c.marks a ≡ false → entry_of c.kept a.client a.number ≡ None → news c (a ∷ xs) ≡ a ∷ news (contents_with c a) xs
new_is_first c a xs live none =
    let marks = marks_with c.marks a in
    let ns = map number_of c.kept in
    let es = c.kept ++ entry_with a (reply_to c.facts c.marks a) ∷ [] in
    let new = a ∷ firsts (ns ++ key a ∷ []) marks xs in
    let numbers : map number_of es ≡ ns ++ key a ∷ [] = map-append number_of c.kept (entry_with a (reply_to c.facts c.marks a) ∷ []) in
    let same : firsts (ns ++ key a ∷ []) marks xs ≡ news (contents_with c a) xs =
    ap (λ k. firsts k marks xs) (sym numbers) ∙ firsts_same marks (map number_of es) (map number_of (above marks es)) xs (agree_above marks es) in
    ap (λ b. cond (b || is_among ns a) (firsts ns c.marks xs) new) live
    ∙ ap (λ b. cond b (firsts ns c.marks xs) new) (among_kept c.kept a ∙ ap (λ (o : Option Entry). is_some o) none)
    ∙ ap (λ rest. a ∷ rest) same

-- ---- the contents after two lists

new_then : (c : Contents) (a : Arrived) (xs : List Arrived) → is_released c.marks a ≡ false → entry_of c.kept a.client a.number ≡ None → contents_after c (a ∷ xs) ≡ contents_after (contents_with c a) xs
new_then c a xs live none =
    let entry = entry_with a (reply_to c.facts c.marks a) in
    let marks = marks_with c.marks a in
    let f = facts_with c.facts a in
    let new = news (contents_with c a) xs in
    ap (built c.facts c.marks c.kept) (new_is_first c a xs live none)
    ∙ ap (λ (k : List Entry). record { facts = facts_after f new; kept = above (marks_after marks new) k; marks = marks_after marks new }) (sym (append_assoc c.kept (entry ∷ []) (entries_of f marks new)))
    ∙ sym (built_above f marks (c.kept ++ entry ∷ []) new)

pub one_then : (c : Contents) (a : Arrived) (xs : List Arrived) → AreAbove c → contents_after c (a ∷ xs) ≡ contents_after (contents_after c (a ∷ [])) xs
one_then c a xs are = elim (cases_Bool (is_released c.marks a)) [
  | inl gone ↦ ap (built c.facts c.marks c.kept) (released_adds_none c a xs gone) ∙ sym (ap (λ d. contents_after d xs) (contents_released c a are gone))
  | inr live ↦ by_entry (entry_of c.kept a.client a.number) refl live
]
  where
    by_entry : (o : Option Entry) → entry_of c.kept a.client a.number ≡ o → is_released c.marks a ≡ false → contents_after c (a ∷ xs) ≡ contents_after (contents_after c (a ∷ [])) xs
    by_entry None none live = new_then c a xs live none ∙ sym (ap (λ d. contents_after d xs) (contents_new c a live none))
    by_entry (Some e) some live = ap (built c.facts c.marks c.kept) (old_adds_none c a xs e live some) ∙ sym (ap (λ d. contents_after d xs) (contents_old c a e are live some))

-- the contents after two lists of arrivals, one after the other
pub contents_after-append : (c : Contents) (xs ys : List Arrived) → AreAbove c → contents_after c (xs ++ ys) ≡ contents_after (contents_after c xs) ys
contents_after-append c [] ys are = sym (ap (λ d. contents_after d ys) (none_after c are))
  where
    none_after : (c : Contents) → AreAbove c → contents_after c [] ≡ c
    none_after c are = same_contents c are
contents_after-append c (x ∷ xs) ys are =
    one_then c x (xs ++ ys) are ∙ contents_after-append (contents_after c (x ∷ [])) xs ys (above_after c x are) ∙ sym (ap (λ d. contents_after d ys) (one_then c x xs are))

-- ---- the lines of a request log

pub told_released : (c : Contents) (a : Arrived) → is_released c.marks a ≡ true → told c (a ∷ []) ≡ []
told_released c a gone = ap (entries_of c.facts c.marks) (released_adds_none c a [] gone)

pub told_old : (c : Contents) (a : Arrived) (e : Entry) → is_released c.marks a ≡ false → entry_of c.kept a.client a.number ≡ Some e → told c (a ∷ []) ≡ []
told_old c a e live some = ap (entries_of c.facts c.marks) (old_adds_none c a [] e live some)

pub told_new : (c : Contents) (a : Arrived) → is_released c.marks a ≡ false → entry_of c.kept a.client a.number ≡ None → told c (a ∷ []) ≡ entry_with a (reply_to c.facts c.marks a) ∷ []
told_new c a live none = ap (entries_of c.facts c.marks) (new_is_first c a [] live none)

one_told : (c : Contents) (a : Arrived) (xs : List Arrived) → AreAbove c → told c (a ∷ xs) ≡ told c (a ∷ []) ++ told (contents_after c (a ∷ [])) xs
one_told c a xs are = elim (cases_Bool (is_released c.marks a)) [
  | inl gone ↦ no_line (released_adds_none c a xs gone) (told_released c a gone) (contents_released c a are gone)
  | inr live ↦ by_entry (entry_of c.kept a.client a.number) refl live
]
  where
    no_line : news c (a ∷ xs) ≡ news c xs → told c (a ∷ []) ≡ [] → contents_after c (a ∷ []) ≡ c → told c (a ∷ xs) ≡ told c (a ∷ []) ++ told (contents_after c (a ∷ [])) xs
    no_line new none same = ap (entries_of c.facts c.marks) new ∙ sym (ap (λ es. es ++ told (contents_after c (a ∷ [])) xs) none ∙ ap (λ d. told d xs) same)

    by_entry : (o : Option Entry) → entry_of c.kept a.client a.number ≡ o → is_released c.marks a ≡ false → told c (a ∷ xs) ≡ told c (a ∷ []) ++ told (contents_after c (a ∷ [])) xs
    by_entry (Some e) some live = no_line (old_adds_none c a xs e live some) (told_old c a e live some) (contents_old c a e are live some)
    by_entry None none live =
        let entry = entry_with a (reply_to c.facts c.marks a) in
        ap (entries_of c.facts c.marks) (new_is_first c a xs live none) ∙ sym (ap (λ es. es ++ told (contents_after c (a ∷ [])) xs) (told_new c a live none) ∙ ap (λ d. entry ∷ told d xs) (contents_new c a live none))

-- the lines of two lists of arrivals, one after the other
pub told-append : (c : Contents) (xs ys : List Arrived) → AreAbove c → told c (xs ++ ys) ≡ told c xs ++ told (contents_after c xs) ys
told-append c [] ys are = sym (ap (λ d. told d ys) (same_contents c are))
told-append c (x ∷ xs) ys are =
    let next = contents_after c (x ∷ []) in
    one_told c x (xs ++ ys) are ∙ ap (λ es. told c (x ∷ []) ++ es) (told-append next xs ys (above_after c x are))
    ∙ sym (append_assoc (told c (x ∷ [])) (told next xs) (told (contents_after next xs) ys))
    ∙ ap (λ es. es ++ told (contents_after next xs) ys) (sym (one_told c x xs are))
    ∙ ap (λ d. told c (x ∷ xs) ++ told d ys) (sym (one_then c x xs are))
