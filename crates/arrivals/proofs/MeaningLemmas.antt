-- Lemmas about one arrival, whose number is released, used or new.
use Rattle.std.proofs.Common.{◌≡◌, ◌≤◌, ◌<◌, ◌==◌, ◌&&◌, ◌||◌, ℕ, Bool, true, false, not, cond, List, [], ◌∷◌, ◌++◌, map, All, Option, Some, None, refl, sym, ap, ◌∙◌, subst, inl, inr, append-nil, arith}
use Rattle.std.specs.Prelude.{bytes_eq, find, filter, is_some, nat_le, option_map, unwrap_or}
use Rattle.std.specs.Option.{option_or}
use Rattle.std.proofs.lemmas.Bool.{and_parts, cases_Bool, cond_both, cond-true, cond-false, eqb-true, false≢true}
use Rattle.std.proofs.lemmas.List.Elements.{All-filter, All-head, All-push, All-tail, filter_passes}
use Rattle.std.proofs.lemmas.List.Folds.{find-append}
use Rattle.std.proofs.lemmas.Option.{none-some, same_Some}
use Rattle.std.proofs.lemmas.Slice.Eq.{bytes_eq-Decides}
use Rattle.job_facts.specs.declared.request.Call.{Call}
use Rattle.job_facts.specs.declared.request.Call.TheVariants.{Job, Release}
use Rattle.job_facts.specs.declared.reply.Reply.TheVariants.{NumberReleased}
use Rattle.job_facts.specs.Steps.{by_option}
use Rattle.job_facts.specs.Contents.{Contents, Entry, Mark, above, entry_of, has_mark, is_above, mark_of, with_mark}
use Rattle.arrivals.specs.Laws.{AreAbove}
use Rattle.arrivals.specs.HttpReplies.{HttpReply, http_reply_of}
use Rattle.arrivals.specs.Meaning.{Arrived, contents_after, contents_with, entry_with, http_reply_by, http_reply_on, is_among, is_released, mark_by, marks_by, marks_with, number_of, reply_to}

pub filter_all : {X : Type 0} (p : X → Bool) (xs : List X) → All (λ x. p x ≡ true) xs → filter p xs ≡ xs
filter_all p [] all = refl
filter_all p (x ∷ xs) all =
    ap (λ b. cond b (x ∷ filter p xs) (filter p xs)) (All-head (λ x. p x ≡ true) x xs all) ∙ ap (λ ys. x ∷ ys) (filter_all p xs (All-tail (λ x. p x ≡ true) x xs all))

-- a number is used if and only if it has an entry
pub among_kept : (kept : List Entry) (a : Arrived) → is_among (map number_of kept) a ≡ is_some (entry_of kept a.client a.number)
among_kept [] a = refl
among_kept (e ∷ es) a =
    elim (bytes_eq e.client a.client && (e.number == a.number)) as (λ b. (b || is_among (map number_of es) a) ≡ is_some (cond b (Some e) (entry_of es a.client a.number))) [
      | true ↦ refl
      | false ↦ among_kept es a
    ]

pub same_contents : (c : Contents) → AreAbove c → record { facts = c.facts; kept = above c.marks (c.kept ++ []); marks = c.marks } ≡ c
same_contents c are = ap (λ (es : List Entry). record { facts = c.facts; kept = es; marks = c.marks }) (ap (above c.marks) (append-nil c.kept) ∙ filter_all (is_above c.marks) c.kept are)

pub contents_released : (c : Contents) (a : Arrived) → AreAbove c → is_released c.marks a ≡ true → contents_after c (a ∷ []) ≡ c
contents_released c a are released = rw released (same_contents c are)

pub contents_old : (c : Contents) (a : Arrived) (e : Entry) → AreAbove c → is_released c.marks a ≡ false → entry_of c.kept a.client a.number ≡ Some e → contents_after c (a ∷ []) ≡ c
contents_old c a e are not_released some = rw (not_released, among_kept c.kept a, some) (same_contents c are)

pub contents_new : (c : Contents) (a : Arrived) → is_released c.marks a ≡ false → entry_of c.kept a.client a.number ≡ None → contents_after c (a ∷ []) ≡ contents_with c a
contents_new c a not_released none = rw (not_released, among_kept c.kept a, none) refl

-- a property of the contents after an arrival and of its response is true if it is true in each of
-- the three cases
pub decided_by : (c : Contents) (a : Arrived) (P : Contents → HttpReply → Type 0) → AreAbove c
    → (is_released c.marks a ≡ true → P c (http_reply_of (NumberReleased (mark_of c.marks a.client))))
    → ((e : Entry) → is_released c.marks a ≡ false → entry_of c.kept a.client a.number ≡ Some e → P c (http_reply_by a.ask e))
    → (is_released c.marks a ≡ false → entry_of c.kept a.client a.number ≡ None → P (contents_with c a) (http_reply_of (reply_to c.facts c.marks a)))
    → P (contents_after c (a ∷ [])) (http_reply_on c a)
decided_by c a P are released again new =
    let gone : HttpReply = http_reply_of (NumberReleased (mark_of c.marks a.client)) in
    let first : HttpReply = http_reply_of (reply_to c.facts c.marks a) in
    let other : HttpReply = by_option (entry_of c.kept a.client a.number) first (http_reply_by a.ask) in
    let at : (o : Option Entry) → entry_of c.kept a.client a.number ≡ o → is_released c.marks a ≡ false → P (contents_after c (a ∷ [])) (http_reply_on c a) =
    λ o is miss. elim o as (λ o. entry_of c.kept a.client a.number ≡ o → P (contents_after c (a ∷ [])) (http_reply_on c a)) [
      | None ↦ λ none. subst (λ d. P d (http_reply_on c a)) (sym (contents_new c a miss none))
          (subst (P (contents_with c a)) (sym (cond-false (is_released c.marks a) gone other miss ∙ ap (λ o. by_option o first (http_reply_by a.ask)) none)) (new miss none))
      | Some e ↦ λ some. subst (λ d. P d (http_reply_on c a)) (sym (contents_old c a e are miss some))
          (subst (P c) (sym (cond-false (is_released c.marks a) gone other miss ∙ ap (λ o. by_option o first (http_reply_by a.ask)) some)) (again e miss some))
    ] is in
    elim (cases_Bool (is_released c.marks a)) [
      | inl hit ↦ subst (λ d. P d (http_reply_on c a)) (sym (contents_released c a are hit)) (subst (P c) (sym (cond-true (is_released c.marks a) gone other hit)) (released hit))
      | inr miss ↦ at (entry_of c.kept a.client a.number) refl miss
    ]

pub above_after : (c : Contents) (a : Arrived) → AreAbove c → AreAbove (contents_after c (a ∷ []))
above_after c a are = decided_by c a (λ d http_reply. AreAbove d) are (λ released. are) (λ e no some. are)
    (λ no none. filter_passes (is_above (marks_with c.marks a)) (c.kept ++ entry_with a (reply_to c.facts c.marks a) ∷ []))

-- a property of all entries and of the new one is true of all entries after the arrival
pub kept_with : (c : Contents) (a : Arrived) (P : Entry → Type 0) → All P c.kept → P (entry_with a (reply_to c.facts c.marks a)) → All P (contents_with c a).kept
kept_with c a P all new = All-filter (is_above (marks_with c.marks a)) P (c.kept ++ entry_with a (reply_to c.facts c.marks a) ∷ []) (All-push P c.kept (entry_with a (reply_to c.facts c.marks a)) all new)

-- ---- release marks

find_none : {X : Type 0} (p : X → Bool) (xs : List X) → find p (filter (λ x. not (p x)) xs) ≡ None
find_none p [] = refl
find_none p (x ∷ xs) = elim (cases_Bool (p x)) [
  | inl hit ↦ ap (λ b. find p (cond (not b) (x ∷ filter (λ x. not (p x)) xs) (filter (λ x. not (p x)) xs))) hit ∙ find_none p xs
  | inr miss ↦ ap (λ b. find p (cond (not b) (x ∷ filter (λ x. not (p x)) xs) (filter (λ x. not (p x)) xs))) miss
      ∙ ap (λ b. cond b (Some x) (find p (filter (λ x. not (p x)) xs))) miss ∙ find_none p xs
]

-- a search for an element isn't affected by filtering out others
find_other : {X : Type 0} (p q : X → Bool) → ((x : X) → q x ≡ true → p x ≡ false) → (xs : List X) → find q (filter (λ x. not (p x)) xs) ≡ find q xs
find_other p q apart [] = refl
find_other p q apart (x ∷ xs) = elim (cases_Bool (p x)) [
  | inl hit ↦
      let no : q x ≡ false = elim (cases_Bool (q x)) [ inl also ↦ absurd (false≢true (sym (apart x also) ∙ hit)) | inr miss ↦ miss ] in
      ap (λ b. find q (cond (not b) (x ∷ filter (λ x. not (p x)) xs) (filter (λ x. not (p x)) xs))) hit ∙ find_other p q apart xs
      ∙ sym (ap (λ b. cond b (Some x) (find q xs)) no)
  | inr miss ↦ ap (λ b. find q (cond (not b) (x ∷ filter (λ x. not (p x)) xs) (filter (λ x. not (p x)) xs))) miss
      ∙ ap (λ o. cond (q x) (Some x) o) (find_other p q apart xs)
]

abbrev pub upto_of : Option Mark → ℕ
upto_of o = unwrap_or (option_map (λ (m : Mark). m.upto) o) 0

pub mark_set : (marks : List Mark) (client : List ℕ) (upto : ℕ) → mark_of (with_mark marks client upto) client ≡ upto
mark_set marks client upto =
    let new : Mark = record { client = client; upto = upto } in
    let same : bytes_eq client client ≡ true = (bytes_eq-Decides client client).1 refl in
    ap upto_of (find-append (has_mark client) (filter (λ m. not (has_mark client m)) marks) (new ∷ []))
    ∙ ap (λ o. upto_of (option_or o (find (has_mark client) (new ∷ [])))) (find_none (has_mark client) marks)
    ∙ ap (λ b. upto_of (cond b (Some new) None)) same

pub mark_other : (marks : List Mark) (client : List ℕ) (upto : ℕ) (n : List ℕ) → bytes_eq client n ≡ false → mark_of (with_mark marks client upto) n ≡ mark_of marks n
mark_other marks client upto n apart =
    let new : Mark = record { client = client; upto = upto } in
    let others : (m : Mark) → has_mark n m ≡ true → has_mark client m ≡ false = λ m yes.
    elim (cases_Bool (has_mark client m)) [
      | inl both ↦ absurd (false≢true (sym apart ∙ (bytes_eq-Decides client n).1 (sym ((bytes_eq-Decides m.client client).0 both) ∙ (bytes_eq-Decides m.client n).0 yes)))
      | inr miss ↦ miss
    ] in
    ap upto_of (find-append (has_mark n) (filter (λ m. not (has_mark client m)) marks) (new ∷ []))
    ∙ ap (λ b. upto_of (option_or (find (has_mark n) (filter (λ m. not (has_mark client m)) marks)) (cond b (Some new) None))) apart
    ∙ ap upto_of (or_none (find (has_mark n) (filter (λ m. not (has_mark client m)) marks)))
    ∙ ap upto_of (find_other (has_mark client) (has_mark n) others marks)
  where
    or_none : (o : Option Mark) → option_or o None ≡ o
    or_none None = refl
    or_none (Some m) = refl

-- a call never lowers a release mark
pub mark_after : (marks : List Mark) (client : List ℕ) (number : ℕ) (call : Call) (n : List ℕ) → mark_of marks n ≤ mark_of (marks_by marks client number call) n
mark_after marks client number (Job r) n = omega arith
mark_after marks client number (Release upto) n =
    cond_both {A = List Mark} (nat_le number upto) marks (with_mark marks client (mark_by marks client upto)) (λ after. mark_of marks n ≤ mark_of after n)
    (λ far. omega arith)
    (λ near. elim (cases_Bool (bytes_eq client n)) [
      | inl own ↦
          let same : client ≡ n = (bytes_eq-Decides client n).0 own in
          let set : mark_of (with_mark marks client (mark_by marks client upto)) n ≡ mark_by marks client upto = ap (mark_of (with_mark marks client (mark_by marks client upto))) (sym same) ∙ mark_set marks client (mark_by marks client upto) in
          let here : mark_of marks client ≡ mark_of marks n = ap (mark_of marks) same in
          omega (arith, set, here)
      | inr other ↦ omega (arith, mark_other marks client (mark_by marks client upto) n other)
    ])

-- release marks never fall
pub marks_grow : (marks : List Mark) (a : Arrived) (n : List ℕ) → mark_of marks n ≤ mark_of (marks_with marks a) n
marks_grow marks a n = mark_after marks a.client a.number a.request n

-- release marks stay below a limit that is above every release
pub mark_below : (marks : List Mark) (client : List ℕ) (number upto : ℕ) (n : List ℕ) (most : ℕ) → upto < most → ((m : List ℕ) → mark_of marks m < most) → mark_of (marks_by marks client number (Release upto)) n < most
mark_below marks client number upto n most near low =
    cond_both {A = List Mark} (nat_le number upto) marks (with_mark marks client (mark_by marks client upto)) (λ after. mark_of after n < most)
    (λ far. low n)
    (λ within. elim (cases_Bool (bytes_eq client n)) [
      | inl own ↦
          let same : client ≡ n = (bytes_eq-Decides client n).0 own in
          let set : mark_of (with_mark marks client (mark_by marks client upto)) n ≡ mark_by marks client upto = ap (mark_of (with_mark marks client (mark_by marks client upto))) (sym same) ∙ mark_set marks client (mark_by marks client upto) in
          omega (arith, set, low client, near)
      | inr other ↦ omega (arith, mark_other marks client (mark_by marks client upto) n other, low n)
    ])

pub with_above : (c : Contents) (a : Arrived) → AreAbove (contents_with c a)
with_above c a = filter_passes (is_above (marks_with c.marks a)) (c.kept ++ entry_with a (reply_to c.facts c.marks a) ∷ [])

-- the entry that is found has this client and number
pub entry_is : (kept : List Entry) (client : List ℕ) (number : ℕ) (e : Entry) → entry_of kept client number ≡ Some e → (e.client ≡ client) × (e.number ≡ number)
entry_is [] client number e found = absurd (none-some e found)
entry_is (d ∷ kept) client number e found = elim (cases_Bool (bytes_eq d.client client && (d.number == number))) [
  | inl hit ↦
      let same : d ≡ e = same_Some d e (sym (cond-true (bytes_eq d.client client && (d.number == number)) (Some d) (entry_of kept client number) hit) ∙ found) in
      let parts = and_parts (bytes_eq d.client client) (d.number == number) hit in
      subst (λ (x : Entry). (x.client ≡ client) × (x.number ≡ number)) same ((bytes_eq-Decides d.client client).0 parts.0, eqb-true d.number number parts.1)
  | inr miss ↦ entry_is kept client number e (sym (cond-false (bytes_eq d.client client && (d.number == number)) (Some d) (entry_of kept client number) miss) ∙ found)
]
