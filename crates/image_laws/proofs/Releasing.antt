-- The rows after a release.
use Rattle.std.proofs.Common.{◌≡◌, ◌&&◌, ℕ, Bool, true, false, cond, not, List, [], ◌∷◌, ◌++◌, Option, Some, None, inl, inr, refl, sym, ap, subst, ◌∙◌, arith, IsPermutation}
use Rattle.std.specs.Prelude.{bytes_eq, filter, find, nat_le, nat_lt, option_map, unwrap_or}
use Rattle.std.proofs.lemmas.Bool.{both_ways, cases_Bool, false_from_ne_true, lt-ltb}
use Rattle.std.proofs.lemmas.Bool.Decides.{nat_tests}
use Rattle.std.proofs.lemmas.List.Elements.{All-weaker, filter-append}
use Rattle.store_data.proofs.GroupLemmas.{bytes_eq-same, same-bytes_eq}
use Rattle.job_facts.specs.Contents.{AreSound, Contents, Entry, IsOwedRelease, Mark, above, has_mark, is_above, mark_of, released, with_mark}
use Rattle.table_rows.specs.After.{rows_written}
use Rattle.table_rows.specs.declared.writing.Writing.TheVariants as writing
use Rattle.table_rows.specs.Tables.{HaveSameRows, is_released}
use Rattle.table_rows.proofs.Found.{filter_alike}
use Rattle.table_rows.proofs.Same.{replies_move}
use Rattle.image_laws.specs.Image.{image}
use Rattle.image_laws.proofs.Lists.{pushed}

abbrev upto_of : Option Mark → ℕ
upto_of o = unwrap_or (option_map (λ (m : Mark). m.upto) o) 0

module _ (client : List ℕ) (upto : ℕ) where
  abbrev new : Mark
  new = record { client = client; upto = upto }

  abbrev other_marks : List Mark → List Mark
  other_marks marks = filter (λ (m : Mark). not (has_mark client m)) marks

  -- The release mark of the client is the new one, and the marks of all other clients are
  -- unchanged.
  mark_after : (marks : List Mark) (n : List ℕ) → mark_of (with_mark marks client upto) n ≡ cond (bytes_eq client n) upto (mark_of marks n)
  mark_after [] n = elim (bytes_eq client n) as (λ b. upto_of (cond b (Some new) None) ≡ cond b upto 0) [ true ↦ refl | false ↦ refl ]
  mark_after (m ∷ marks) n =
      let rest : Option Mark = find (has_mark n) marks in
      let left : List Mark = other_marks marks in
      elim (cases_Bool (has_mark client m)) [
        | inl own ↦
            let by_test = elim (bytes_eq client n) as (λ b. cond b upto (upto_of rest) ≡ cond b upto (upto_of (cond b (Some m) rest))) [ true ↦ refl | false ↦ refl ] in
            ap (λ b. upto_of (find (has_mark n) (cond (not b) (m ∷ left) left ++ new ∷ []))) own ∙ mark_after marks n ∙ by_test
            ∙ sym (ap (λ c. cond (bytes_eq client n) upto (upto_of (cond (bytes_eq c n) (Some m) rest))) (same-bytes_eq m.client client own))
        | inr other ↦
            ap (λ b. upto_of (find (has_mark n) (cond (not b) (m ∷ left) left ++ new ∷ []))) other
            ∙ elim (cases_Bool (bytes_eq m.client n)) [
              | inl hit ↦
                  let apart : bytes_eq client n ≡ false = false_from_ne_true (bytes_eq client n) (λ same.
                  both_ways (has_mark client m) other (ap (bytes_eq m.client) (same-bytes_eq client n same) ∙ hit)) in
                  ap (λ b. upto_of (cond b (Some m) (find (has_mark n) (left ++ new ∷ [])))) hit
                  ∙ sym (ap (λ b. cond b upto (upto_of (cond (bytes_eq m.client n) (Some m) rest))) apart ∙ ap (λ b. upto_of (cond b (Some m) rest)) hit)
              | inr miss ↦
                  ap (λ b. upto_of (cond b (Some m) (find (has_mark n) (left ++ new ∷ [])))) miss ∙ mark_after marks n
                  ∙ sym (ap (λ b. cond (bytes_eq client n) upto (upto_of (cond b (Some m) rest))) miss)
            ]
      ]

  -- A reply above the old marks is above the new marks if and only if it isn't released.
  stays_above : (marks : List Mark) (e : Entry) → is_above marks e ≡ true → is_above (with_mark marks client upto) e ≡ not (is_released client upto e)
  stays_above marks e was =
      ap (λ n. nat_lt n e.number) (mark_after marks e.client)
      ∙ elim (cases_Bool (bytes_eq client e.client)) [
        | inl hit ↦
            let own : bytes_eq e.client client ≡ true = ap (bytes_eq e.client) (same-bytes_eq client e.client hit) ∙ bytes_eq-same e.client in
            let over : nat_lt upto e.number ≡ not (nat_le e.number upto) = grind (arith, nat_tests) in
            ap (λ b. nat_lt (cond b upto (mark_of marks e.client)) e.number) hit ∙ over ∙ sym (ap (λ b. not (b && nat_le e.number upto)) own)
        | inr miss ↦
            let other : bytes_eq e.client client ≡ false = false_from_ne_true (bytes_eq e.client client) (λ same.
            both_ways (bytes_eq client e.client) miss (ap (bytes_eq client) (same-bytes_eq e.client client same) ∙ bytes_eq-same client)) in
            ap (λ b. nat_lt (cond b upto (mark_of marks e.client)) e.number) miss ∙ was ∙ sym (ap (λ b. not (b && nat_le e.number upto)) other)
      ]

pub rows_after_release_are : (c : Contents) (upto : ℕ) (entry : Entry) → AreSound c → IsOwedRelease upto entry c
    → HaveSameRows (image (released c upto entry)) (rows_written (writing.Releases entry.client upto) entry (image c))
rows_after_release_are c upto entry sound owed =
    let client = entry.client in
    let marks : List Mark = with_mark c.marks client upto in
    let is_left : Entry → Bool = λ e. not (is_released client upto e) in
    let old : filter (is_above marks) c.kept ≡ filter is_left c.kept =
    filter_alike (is_above marks) is_left c.kept
    (All-weaker (λ e. is_above c.marks e ≡ true) (λ e. is_above marks e ≡ is_left e) (stays_above client upto c.marks) c.kept sound.above) in
    let own : is_above marks entry ≡ true =
    ap (λ n. nat_lt n entry.number) (mark_after client upto c.marks client) ∙ ap (λ b. nat_lt (cond b upto (mark_of c.marks client)) entry.number) (bytes_eq-same client)
    ∙ lt-ltb upto entry.number owed.near in
    let kept : above marks (c.kept ++ entry ∷ []) ≡ filter is_left c.kept ++ entry ∷ [] =
    filter-append (is_above marks) c.kept (entry ∷ []) ∙ ap (λ b. filter (is_above marks) c.kept ++ cond b (entry ∷ []) []) own ∙ ap (λ es. es ++ entry ∷ []) old in
    replies_move (image c) _ _ _ _ (subst (λ es. IsPermutation es (entry ∷ filter is_left c.kept)) (sym kept) (pushed (filter is_left c.kept) entry))
    (pushed (filter (λ (m : Mark). not (has_mark client m)) c.marks) (record { client = client; upto = upto }))
