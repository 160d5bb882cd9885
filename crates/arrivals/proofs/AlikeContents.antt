-- Proves that contents in a different order give each arrival the same reply, and that the contents
-- after it again differ only in order.
use Rattle.std.proofs.Common.{◌≡◌, ◌==◌, ◌&&◌, ◌||◌, ℕ, Bool, true, false, List, [], ◌∷◌, ◌++◌, get_or, map, sym, ap, ◌∙◌, subst, inl, inr, IsPermutation, eq-eqb, not}
use Rattle.std.specs.Prelude.{bytes_eq, filter, max, nat_le, nat_lt, if◌then◌else◌}
use Rattle.std.proofs.lemmas.Bool.{and_from, and_parts, both_ways, cases_Bool, eqb-true, false_from_ne_true}
use Rattle.std.proofs.lemmas.List.Sorted.{IsPermutation-append_left, IsPermutation-map, list_any-IsPermutation}
use Rattle.std.proofs.lemmas.Slice.Eq.{bytes_eq-Decides}
use Rattle.job_facts.specs.declared.refusal.Refusal.TheVariants.{ReleaseTooFar}
use Rattle.job_facts.specs.declared.reply.Reply.TheVariants.{Refused, Released, NumberReleased}
use Rattle.job_facts.specs.declared.request.Request.{Request}
use Rattle.job_facts.specs.declared.request.Call.{Call}
use Rattle.job_facts.specs.declared.request.Call.TheVariants.{Job, Release}
use Rattle.job_facts.specs.Contents.{AreSame, AreSameFacts, AreSound, Contents, Entry, Mark, above, entry_of, has_mark, is_above, is_of_number, mark_of, with_mark}
use Rattle.job_facts.specs.Facts.{Facts}
use Rattle.job_facts.specs.Sound.{IsSound}
use Rattle.job_facts.specs.Steps.{by_option, step}
use Rattle.step_laws.specs.Alike.{AreAlike}
use Rattle.step_laws.proofs.Permuted.{IsPermutation-filter, at_most_one, find_moved}
use Rattle.arrivals.specs.Laws.{AreAnsweredAlike}
use Rattle.arrivals.specs.HttpReplies.{http_reply_of}
use Rattle.arrivals.specs.Meaning.{Arrived, Number, contents_after, entries_of, entry_with, facts_after, facts_by, http_reply_by, http_reply_on, is_among, is_released, mark_by, marks_after, marks_by, number_of, reply_by, reply_to}
use Rattle.arrivals.proofs.MeaningLemmas.{mark_other, mark_set, upto_of}

same_bytes : (m n : List ℕ) → bytes_eq m n ≡ true → m ≡ n
same_bytes m n hit = (bytes_eq-Decides m n).0 hit

-- two marks of different clients don't both have the name `n`
marked_alone : (n : List ℕ) (m k : Mark) → bytes_eq m.client k.client ≡ false → has_mark n m ≡ true → has_mark n k ≡ false
marked_alone n m k apart hit = false_from_ne_true (has_mark n k) (λ also.
    both_ways (bytes_eq m.client k.client) apart ((bytes_eq-Decides m.client k.client).1 (same_bytes m.client n hit ∙ sym (same_bytes k.client n also))))

abbrev is_at : List ℕ → ℕ → Entry → Bool
is_at client number e = bytes_eq e.client client && (e.number == number)

kept_alone : (client : List ℕ) (number : ℕ) (d e : Entry) → is_of_number d e ≡ false → is_at client number d ≡ true → is_at client number e ≡ false
kept_alone client number d e apart hit = false_from_ne_true (is_at client number e) (λ also.
    let one = and_parts (bytes_eq d.client client) (d.number == number) hit in
    let two = and_parts (bytes_eq e.client client) (e.number == number) also in
    let clients : bytes_eq d.client e.client ≡ true = (bytes_eq-Decides d.client e.client).1 (same_bytes d.client client one.0 ∙ sym (same_bytes e.client client two.0)) in
    let numbers : (d.number == e.number) ≡ true = eq-eqb d.number e.number (eqb-true d.number number one.1 ∙ sym (eqb-true e.number number two.1)) in
    both_ways (is_of_number d e) apart (and_from (bytes_eq d.client e.client) (d.number == e.number) clients numbers))

-- the kept replies above two lists of release marks are the same if the marks of all clients are
above_alike : (ms ns : List Mark) (ds es : List Entry) → ((n : List ℕ) → mark_of ms n ≡ mark_of ns n) → IsPermutation ds es → IsPermutation (above ms ds) (above ns es)
above_alike ms ns ds es alike moved =
    let tests : is_above ms ≡ is_above ns = λ i e. nat_lt (alike e.client i) e.number in
    subst (λ p. IsPermutation (above ms ds) (filter p es)) tests (IsPermutation-filter (is_above ms) ds es moved)

-- the contents after an arrival that gets its reply again, or after one with a new number
abbrev after_by : Contents → Arrived → Bool → Contents
after_by c a again =
    let new : List Arrived = if again then [] else a ∷ [] in
    let marks = marks_after c.marks new in
    record { facts = facts_after c.facts new; kept = above marks (c.kept ++ entries_of c.facts c.marks new); marks = marks }

-- facts that differ only in order give the same replies
abbrev pub FactsAlike : Type 0
FactsAlike = (f g : Facts) (client : List ℕ) (r : Request) → IsSound f → AreSameFacts f g → AreAlike (step f client r) (step g client r)

module _ (facts : FactsAlike) (c d : Contents) (sound : AreSound c) (same : AreSame c d) where
  marks_alike : (n : List ℕ) → mark_of c.marks n ≡ mark_of d.marks n
  marks_alike n = ap upto_of (find_moved (has_mark n) c.marks d.marks same.marks (at_most_one (has_mark n) c.marks
      (λ i j x before within. marked_alone n (get_or c.marks i x) (get_or c.marks j x) (sound.marked_once i j x before within))))

  entries_alike : (client : List ℕ) (number : ℕ) → entry_of c.kept client number ≡ entry_of d.kept client number
  entries_alike client number = find_moved (is_at client number) c.kept d.kept same.kept (at_most_one (is_at client number) c.kept
      (λ i j x before within. kept_alone client number (get_or c.kept i x) (get_or c.kept j x) (sound.kept_once i j x before within)))

  module _ (client : List ℕ) (number : ℕ) where
    reply_alike : (call : Call) → reply_by c.facts c.marks client number call ≡ reply_by d.facts d.marks client number call
    reply_alike (Job r) = (facts c.facts d.facts client r sound.facts same.facts).reply
    reply_alike (Release upto) = λ i. if nat_le number upto then Refused ReleaseTooFar else Released (max (marks_alike client i) upto)

    facts_alike : (call : Call) → AreSameFacts (facts_by c.facts client call) (facts_by d.facts client call)
    facts_alike (Job r) = (facts c.facts d.facts client r sound.facts same.facts).facts
    facts_alike (Release upto) = same.facts

    set_alike : (upto : ℕ) (n : List ℕ) → mark_of (with_mark c.marks client upto) n ≡ mark_of (with_mark d.marks client upto) n
    set_alike upto n = elim (cases_Bool (bytes_eq client n)) [
      | inl own ↦
          let is : client ≡ n = same_bytes client n own in
          sym (ap (mark_of (with_mark c.marks client upto)) is) ∙ mark_set c.marks client upto ∙ sym (mark_set d.marks client upto) ∙ ap (mark_of (with_mark d.marks client upto)) is
      | inr other ↦ mark_other c.marks client upto n other ∙ marks_alike n ∙ sym (mark_other d.marks client upto n other)
    ]

    abbrev AreMarksAlike : List Mark → List Mark → Type 0
    AreMarksAlike ms ns = IsPermutation ms ns × ((n : List ℕ) → mark_of ms n ≡ mark_of ns n)

    set_moved : (upto : ℕ) → AreMarksAlike (with_mark c.marks client upto) (with_mark d.marks client upto)
    set_moved upto = (
      IsPermutation-append_left (record { client = client; upto = upto } ∷ []) _ _ (IsPermutation-filter (λ (m : Mark). not (has_mark client m)) c.marks d.marks same.marks),
      set_alike upto,
    )

    released_marks : (upto : ℕ) (far : Bool)
        → AreMarksAlike (if far then c.marks else with_mark c.marks client (mark_by c.marks client upto)) (if far then d.marks else with_mark d.marks client (mark_by d.marks client upto))
    released_marks upto true = (same.marks, marks_alike)
    released_marks upto false =
        subst (λ mark. AreMarksAlike (with_mark c.marks client (mark_by c.marks client upto)) (with_mark d.marks client mark)) (ap (λ mark. max mark upto) (marks_alike client))
        (set_moved (mark_by c.marks client upto))

    new_marks : (call : Call) → AreMarksAlike (marks_by c.marks client number call) (marks_by d.marks client number call)
    new_marks (Job r) = (same.marks, marks_alike)
    new_marks (Release upto) = released_marks upto (nat_le number upto)

  answered_alike : (a : Arrived) → http_reply_on c a ≡ http_reply_on d a
  answered_alike a = λ i.
      if nat_le a.number (marks_alike a.client i) then http_reply_of (NumberReleased (marks_alike a.client i))
      else by_option (entries_alike a.client a.number i) (http_reply_of (reply_alike a.client a.number a.request i)) (http_reply_by a.ask)

  after_alike : (a : Arrived) (again : Bool) → AreSame (after_by c a again) (after_by d a again)
  after_alike a true = record {
    facts = same.facts;
    kept = above_alike c.marks d.marks (c.kept ++ []) (d.kept ++ []) marks_alike (IsPermutation-append_left [] c.kept d.kept same.kept);
    marks = same.marks;
  }
  after_alike a false =
      let marks = new_marks a.client a.number a.request in
      let entry : Entry = entry_with a (reply_to c.facts c.marks a) in
      let kept : IsPermutation (c.kept ++ entry ∷ []) (d.kept ++ entry_with a (reply_to d.facts d.marks a) ∷ []) =
      subst (λ reply. IsPermutation (c.kept ++ entry ∷ []) (d.kept ++ entry_with a reply ∷ [])) (reply_alike a.client a.number a.request)
      (IsPermutation-append_left (entry ∷ []) c.kept d.kept same.kept) in
      record {
        facts = facts_alike a.client a.number a.request;
        kept = above_alike _ _ _ _ marks.1 kept;
        marks = marks.0;
      }

  -- an arrival gets its reply again for both contents or for neither
  again_alike : (a : Arrived) → (is_released c.marks a || is_among (map number_of c.kept) a) ≡ (is_released d.marks a || is_among (map number_of d.kept) a)
  again_alike a =
      let among : is_among (map number_of c.kept) a ≡ is_among (map number_of d.kept) a =
      list_any-IsPermutation (λ (n : Number). bytes_eq n.0 a.client && (n.1 == a.number)) (map number_of c.kept) (map number_of d.kept) (IsPermutation-map number_of c.kept d.kept same.kept) in
      λ i. nat_le a.number (marks_alike a.client i) || among i

pub same_answered_alike : FactsAlike → AreAnsweredAlike
same_answered_alike facts c d a sound same = (
  answered_alike facts c d sound same a,
  subst (λ again. AreSame (contents_after c (a ∷ [])) (after_by d a again)) (again_alike facts c d sound same a)
      (after_alike facts c d sound same a (is_released c.marks a || is_among (map number_of c.kept) a)),
)
