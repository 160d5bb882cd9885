-- Lemmas about the line of a client: it agrees with the contents that the rows represent, and its
-- next boot number is new.
use Rattle.std.proofs.Common.{◌≡◌, ◌==◌, ◌&&◌, ◌<◌, ◌≤◌, ◌+◌, ◌*◌, ℕ, zero, suc, Bool, true, false, List, [], ◌∷◌, All, get_or, length, max, Option, Some, None, inl, inr, sym, ap, ◌∙◌, arith, IsPermutation}
use Rattle.std.specs.Prelude.{AllPairs, bytes_eq, filter, find, fold, nat_lt, option_map, unwrap_or}
use Rattle.std.proofs.lemmas.Bool.{cases_Bool, and_left, and_right, both_ways}
use Rattle.std.proofs.lemmas.Bool.Decides.{nat_tests}
use Rattle.std.proofs.lemmas.List.Sorted.{All-permutation, length_permutation}
use Rattle.store_data.proofs.GroupLemmas.{bytes_eq-same, same-bytes_eq}
use Rattle.job_facts.specs.Contents.{AreSound, Contents, Entry, Mark, entry_of, has_mark, mark_of}
use Rattle.job_facts.specs.States.{running_session}
use Rattle.step_laws.proofs.Permuted.{IsPermutation-filter, at_most_one, count_moved, find_moved}
use Rattle.table_rows.proofs.Found.{find_none}
use Rattle.table_rows.specs.Keys.{is_running_on}
use Rattle.table_rows.specs.Tables.{HaveSameRows, StoredSession, Tables}
use Rattle.image_laws.specs.Image.{image, stored_sessions}
use Rattle.row_laws.proofs.SessionRows.{running_in_rows, running_once}
use Rattle.book_lines.specs.Machines.{IsMachine, boot_above, boot_by, boot_of, is_kept_for, last_boot, running_on}

module _ {X : Type 0} (f : X → ℕ) where
  -- the maximum of `last` and the values of `f`
  abbrev greatest : ℕ → List X → ℕ
  greatest last xs = fold (λ n x. max n (f x)) last xs

  at_least : (last : ℕ) (xs : List X) → last ≤ greatest last xs
  at_least last [] = omega arith
  at_least last (x ∷ xs) = omega (arith, at_least (max last (f x)) xs)

  each_at_most : (last : ℕ) (xs : List X) (k : ℕ) (d : X) → k < length xs → f (get_or xs k d) ≤ greatest last xs
  each_at_most last [] k d within = absurd (omega (arith, within))
  each_at_most last (x ∷ xs) zero d within = omega (arith, at_least (max last (f x)) xs)
  each_at_most last (x ∷ xs) (suc k) d within = each_at_most (max last (f x)) xs k d (omega arith)

-- the next boot number is one above the last one
above_is : (last boot : ℕ) → boot_above last ≡ Some boot → boot ≡ last + 1
above_is last boot is = elim (cases_Bool (nat_lt last 9999999999)) [
  | inl hit ↦ let e = rw hit at is in cc
  | inr miss ↦ let e = rw miss at is in absurd (cc)
]

-- if at most one element satisfies `p`, `find` returns it in any order
moved : {X : Type 0} (p : X → Bool) (xs ys : List X) → IsPermutation xs ys → AllPairs (λ x y. p x ≡ true → p y ≡ false) ys → find p xs ≡ find p ys
moved p xs ys same alone = find_moved p xs ys same (omega (arith, count_moved p xs ys same, at_most_one p ys alone))

module _ (t : Tables) (c : Contents) (sound : AreSound c) (same : HaveSameRows t (image c)) (client : List ℕ) where
  running : running_on t client ≡ running_session c.facts client
  running =
      ap (option_map (λ (s : StoredSession). s.id)) (moved (is_running_on client) t.sessions (stored_sessions c.facts) same.sessions (running_once c.facts sound.facts client))
      ∙ sym (running_in_rows c.facts client)

  marked_once : AllPairs (λ (m n : Mark). has_mark client m ≡ true → has_mark client n ≡ false) c.marks
  marked_once = λ i j d before within hit.
      let m : Mark = get_or c.marks i d in
      let n : Mark = get_or c.marks j d in
      let differ : bytes_eq m.client n.client ≡ false = sound.marked_once i j d before within in
      elim (cases_Bool (bytes_eq n.client client)) [
        | inl again ↦
            let is : m.client ≡ n.client = same-bytes_eq m.client client hit ∙ sym (same-bytes_eq n.client client again) in
            absurd (both_ways (bytes_eq m.client n.client) differ (ap (bytes_eq m.client) (sym is) ∙ bytes_eq-same m.client))
        | inr other ↦ other
      ]

  mark : mark_of t.marks client ≡ mark_of c.marks client
  mark = ap (λ (o : Option Mark). unwrap_or (option_map (λ (m : Mark). m.upto) o) 0) (moved (has_mark client) t.marks c.marks same.marks marked_once)

  kept : length (filter (is_kept_for client) t.replies) ≡ length (filter (is_kept_for client) c.kept)
  kept =
      sym (length_permutation (filter (is_kept_for client) t.replies) (filter (is_kept_for client) c.kept)
      (IsPermutation-filter (is_kept_for client) t.replies c.kept same.replies))

  up_to_last : All (λ (e : Entry). boot_by client e ≤ last_boot t client) c.kept
  up_to_last =
      All-permutation (λ (e : Entry). boot_by client e ≤ last_boot t client) t.replies c.kept same.replies
      (λ k d within. each_at_most (boot_by client) (boot_of (mark_of t.marks client)) t.replies k d within)

  module _ (later place : ℕ) (above : last_boot t client < later) where
    differs : (e : Entry) → boot_by client e ≤ last_boot t client → (bytes_eq e.client client && (e.number == (later * 10000000 + place))) ≡ false
    differs e most = elim (cases_Bool (bytes_eq e.client client)) [
      | inl hit ↦
          let named : boot_of e.number ≤ last_boot t client = rw hit at most in
          let other : (e.number == (later * 10000000 + place)) ≡ false = grind (arith, nat_tests) in
          and_right (bytes_eq e.client client) (e.number == (later * 10000000 + place)) other
      | inr miss ↦ and_left (bytes_eq e.client client) (e.number == (later * 10000000 + place)) miss
    ]

    not_kept : entry_of c.kept client (later * 10000000 + place) ≡ None
    not_kept =
        find_none (λ (e : Entry). bytes_eq e.client client && (e.number == (later * 10000000 + place))) c.kept
        (λ k d within. differs (get_or c.kept k d) (up_to_last k d within))

    not_released : mark_of c.marks client < later * 10000000 + place
    not_released =
        let least : boot_of (mark_of t.marks client) ≤ last_boot t client = at_least (boot_by client) (boot_of (mark_of t.marks client)) t.replies in
        let is = mark in
        omega arith

  pub machine_is : IsMachine t c client
  machine_is = record {
    running = running;
    mark = mark;
    kept = kept;
    boots = λ boot next later place upto.
        let is : boot ≡ last_boot t client + 1 = above_is (last_boot t client) boot next in
        let above : last_boot t client < later = omega arith in
        (not_kept later place above, not_released later place above);
  }
