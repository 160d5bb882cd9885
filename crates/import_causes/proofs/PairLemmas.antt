-- Proves that the two rows of a fault are found one row at a time.
use Rattle.std.proofs.Common.{◌≡◌, ◌≤◌, ◌<◌, ◌+◌, ◌-◌, ℕ, Bool, true, false, List, [], ◌∷◌, ◌++◌, length, map, filter, get_or, take, drop, All, None, refl, sym, subst, ap, ◌∙◌, arith}
use Rattle.std.specs.Prelude.{bytes_eq, if◌then◌else◌}
use Rattle.std.specs.List.{enumerate_from}
use Rattle.std.proofs.lemmas.List.{append-nil, drop_more, get_or_default, length-map, map-append, take_more}
use Rattle.std.proofs.lemmas.List.Elements.{All-cons, All-filter, All-head, All-map, All-nil, All-tail, filter-append}
use Rattle.std.proofs.lemmas.List.FromFn.{length-enumerate_from}
use Rattle.std.proofs.lemmas.List.Sums.{count_by-le-length, length-filter}
use Rattle.store_data.specs.Ranks.{IsRank}
use Rattle.store_data.specs.Sequence.{IsRow}
use Rattle.store_data.specs.declared.faults.PlanFault.{PlanFault}
use Rattle.store_data.specs.declared.faults.Summary.{Summary}
use Rattle.store_data.specs.declared.row.Row.{Row}
use Rattle.batch_import.specs.Outlines.{numbered_summary}
use Rattle.batch_import.proofs.OutlineLemmas.{enumerate_push}
use Rattle.import_causes.specs.Causes.{Numbered}
use Rattle.import_causes.specs.Pairs.{first_pair, pair_or, partner, rows_named, with_named}
use Rattle.import_causes.specs.Walks.{AreRanked}

-- ---- pairs

pub up-to : (rows : List Numbered) (i : ℕ) (row : Numbered) → i < length rows → row ≡ get_or rows i row → take (i + 1) rows ≡ take i rows ++ row ∷ []
up-to rows i row within at = take_more rows i row within ∙ ap (λ (r : Numbered). take i rows ++ r ∷ []) (sym at)

-- two reads of an element
pub same-read : (rows : List Numbered) (i : ℕ) (x y : Numbered) → i < length rows → x ≡ get_or rows i x → y ≡ get_or rows i y → x ≡ y
same-read rows i x y within of_x of_y = of_x ∙ get_or_default rows i x y within ∙ sym of_y

pub pair-step : (fault : PlanFault) (m : ℕ) (rows : List Numbered) (i : ℕ) (row : Numbered) → i < length rows → row ≡ get_or rows i row
    → first_pair fault m (take i rows) (drop i rows) ≡ pair_or (partner fault m (take i rows) row) row (first_pair fault m (take (i + 1) rows) (drop (i + 1) rows))
unfolding first_pair
pair-step fault m rows i row within at =
    ap (first_pair fault m (take i rows)) (drop_more rows i row within ∙ ap (λ (r : Numbered). r ∷ drop (i + 1) rows) (sym at))
    ∙ ap (λ (before : List Numbered). pair_or (partner fault m (take i rows) row) row (first_pair fault m before (drop (i + 1) rows))) (sym (up-to rows i row within at))

pub pair-none : (fault : PlanFault) (m : ℕ) (before : List Numbered) → first_pair fault m before [] ≡ None
unfolding first_pair
pair-none fault m before = refl

-- ---- the rows of a record

-- the ranks of summaries without row numbers
pub ranks-of : (rows : List Numbered) (summaries : List Summary) → summaries ≡ map (λ (e : Numbered). e.1) rows → All (λ (e : Numbered). IsRank e.1.rank) rows
    → All (λ (row : Summary). IsRank row.rank) summaries
ranks-of rows summaries is each = subst (All (λ (row : Summary). IsRank row.rank)) (sym is) (All-map (λ (row : Summary). IsRank row.rank) (λ (e : Numbered). e.1) rows each)

abbrev has_name : List ℕ → ℕ × Row → Bool
has_name name e = bytes_eq e.1.rec name

-- one more row of the file
pub named-push : (name : List ℕ) (rows : List Row) (row : Row) (number : ℕ) → number ≡ length rows + 2
    → rows_named name (rows ++ row ∷ []) ≡ with_named name (rows_named name rows) number row
named-push name rows row number is =
    let numbered = enumerate_from 2 rows in
    ap (map numbered_summary) (ap (filter (has_name name)) (enumerate_push 2 number rows row (omega arith)) ∙ filter-append (has_name name) numbered ((number, row) ∷ []))
    ∙ map-append numbered_summary (filter (has_name name) numbered) (filter (has_name name) ((number, row) ∷ []))
    ∙ at (rows_named name rows) (bytes_eq row.rec name)
  where
    at : (kept : List Numbered) (b : Bool)
        → kept ++ map numbered_summary (if b then (number, row) ∷ [] else []) ≡ (if b then kept ++ numbered_summary (number, row) ∷ [] else kept)
    at kept true = refl
    at kept false = append-nil kept

numbered_ranks : (n : ℕ) (rows : List Row) → All IsRow rows → All (λ (e : ℕ × Row). IsRank e.1.rank) (enumerate_from n rows)
numbered_ranks n [] each = All-nil (λ (e : ℕ × Row). IsRank e.1.rank)
numbered_ranks n (row ∷ rows) each =
    let ranged = All-head IsRow row rows each in
    All-cons (λ (e : ℕ × Row). IsRank e.1.rank) (n, row) (enumerate_from (n + 1) rows) (ranged.rank_least, ranged.rank_most)
    (numbered_ranks (n + 1) rows (All-tail IsRow row rows each))

pub named-ranked : (name : List ℕ) (rows : List Row) → length rows ≤ 4096 → All IsRow rows → AreRanked (rows_named name rows)
named-ranked name rows few each =
    let numbered = enumerate_from 2 rows in
    let kept = filter (has_name name) numbered in
    record {
      few = omega (arith, length-map kept numbered_summary, length-filter (has_name name) numbered, count_by-le-length (has_name name) numbered, length-enumerate_from 2 rows);
      each = All-map (λ (e : Numbered). IsRank e.1.rank) numbered_summary kept
          (All-filter (has_name name) (λ (e : ℕ × Row). IsRank e.1.rank) numbered (numbered_ranks 2 rows each));
    }
