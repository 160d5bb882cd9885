-- Proves that reading the rows of a file one by one finds the rows of a record.
use Rattle.std.proofs.Common.{◌≡◌, ◌≤◌, ◌<◌, ◌+◌, ℕ, List, [], ◌∷◌, ◌++◌, length, Some, Ok, refl, sym, subst, ap, ◌∙◌, arith, append-nil}
use Rattle.std.proofs.lemmas.List.{append_assoc, length-append}
use Rattle.std.proofs.lemmas.List.Elements.{All-nil, All-push}
use Rattle.store_data.specs.Sequence.{IsRow}
use Rattle.store_data.specs.declared.row.Row.{Row}
use Rattle.batch_import.specs.Batch.{Coming}
use Rattle.batch_import.specs.Rows.{Left}
use Rattle.batch_import.specs.Walks.{HasFewRows, coming_count, rows_then}
use Rattle.batch_import.specs.declared.fault.ImportFault.TheVariants as fault
use Rattle.import_causes.specs.Causes.{Numbered}
use Rattle.import_causes.specs.Pairs.{rows_named, with_named}
use Rattle.import_causes.specs.Walks.{Advances, AreRanked, IsWalked}
use Rattle.import_causes.proofs.PairLemmas.{named-push, named-ranked}

-- ---- one read

-- after a row was returned, fewer rows are to come
pub fewer : (left next : Left) (more : Coming) (row : Row) → left ≡ Ok more → Advances more (Some row) next → coming_count next < coming_count left
fewer left next more row is (rest, was, now) =
    omega (arith, ap coming_count now, ap coming_count is, ap (λ (c : Coming). length c.rows) was)

-- ---- the loop over the rows

pub walked-start : (start : Left) (name : List ℕ) → HasFewRows start → IsWalked start name [] 2 start
walked-start start name (coming, is, few) = record {
  first = coming;
  start_is = is;
  taken = [];
  more = coming;
  left_is = is;
  all = refl;
  numbered = refl;
  kept_are = refl;
  each = All-nil IsRow;
}

module _ (start : Left) (few : HasFewRows start) (name : List ℕ) (kept : List Numbered) (number : ℕ) (left : Left) (walked : IsWalked start name kept number left) where
  same_start : (coming : Coming) → start ≡ Ok coming → coming ≡ walked.first
  same_start coming is = let both : Ok coming ≡ Ok walked.first = sym is ∙ walked.start_is in cc

  pub taken-few : length walked.taken ≤ 4096
  taken-few = omega (arith, few.2, ap (λ (c : Coming). length c.rows) (same_start few.0 few.1 ∙ walked.all), length-append walked.taken walked.more.rows)

  pub walked-more : (row : Row) (next : Left) → Advances walked.more (Some row) next → IsRow row → IsWalked start name (with_named name kept number row) (number + 1) next
  walked-more row next (rest, is, now) ranged = record {
    first = walked.first;
    start_is = walked.start_is;
    taken = walked.taken ++ row ∷ [];
    more = rest;
    left_is = now;
    all = walked.all ∙ ap (rows_then walked.taken) is
        ∙ ap (λ (rows : List Row). record { rows = rows; fault = rest.fault }) (sym (append_assoc walked.taken (row ∷ []) rest.rows));
    numbered = omega (arith, walked.numbered, length-append walked.taken (row ∷ []));
    kept_are = ap (λ (rows : List Numbered). with_named name rows number row) walked.kept_are ∙ sym (named-push name walked.taken row number walked.numbered);
    each = All-push IsRow walked.taken row walked.each ranged;
  }

  -- all rows were read
  pub walked-all : walked.more.rows ≡ [] → (coming : Coming) → start ≡ Ok coming → kept ≡ rows_named name coming.rows
  walked-all none coming is =
      let all : coming.rows ≡ walked.taken = ap (λ (c : Coming). c.rows) (same_start coming is ∙ walked.all) ∙ ap (λ (rows : List Row). walked.taken ++ rows) none ∙ append-nil walked.taken in
      walked.kept_are ∙ ap (rows_named name) (sym all)

  pub walked-ranked : AreRanked kept
  walked-ranked = subst AreRanked (sym walked.kept_are) (named-ranked name walked.taken taken-few walked.each)
