-- The rows of records, groupings and remakes, each compared with the value from which it is built.
use Rattle.std.proofs.Common.{◌≡◌, ℕ, ◌+◌, ◌<◌, Bool, true, false, not, ltb, List, [], ◌∷◌, ◌++◌, length, take, get_or, map, fold, Some, refl, sym, ap, ◌∙◌, arith}
use Rattle.std.specs.Prelude.{AllPairs, bytes_eq, slice_get}
use Rattle.std.specs.List.{enumerate_from, list_any, position_or_len}
use Rattle.std.proofs.lemmas.Bool.{cond-false, cond-true}
use Rattle.std.proofs.lemmas.Bool.Decides.{nat_tests}
use Rattle.std.proofs.lemmas.List.{length-map, map-append, take_more}
use Rattle.std.proofs.lemmas.List.Folds.{list_any_at}
use Rattle.std.proofs.lemmas.List.Kept.{AllPairs-cons}
use Rattle.std.proofs.lemmas.List.FromFn.{get_or-enumerate_from, get_or-map-range_with_len, length-enumerate_from, length-map-range_with_len}
use Rattle.std.proofs.lemmas.List.Sums.{fold_push, position_or_len_is}
use Rattle.std.proofs.lemmas.Option.{same_Some, slice_get-get_or, slice_get_within}
use Rattle.store_data.specs.declared.row.Row.{Row}
use Rattle.store_data.specs.Groups.{with_key}
use Rattle.store_data.proofs.GroupLemmas.{Distinct, Distinct-first_appearances, bytes_eq-same, list_any-first_appearances, same-bytes_eq}
use Rattle.store_data.proofs.IsPlanLemmas.{All-from_list_any}
use Rattle.step_laws.proofs.BlankSums.{bytes_eq_either}
use Rattle.table_rows.specs.Tables.{StoredGrouping, StoredRecord, StoredRemake, StoredSession, StoredWord, Tables}
use Rattle.table_rows.specs.After.{new_grouping}
use Rattle.row_laws.proofs.RecordRows.{name_at}
use Rattle.audit_laws.specs.Audited.{placed_words, turns_of, words_of}
use Rattle.audit_cards.specs.Cards.{status_words, word_at, words_placed}
use Rattle.audit_cards.specs.Files.{IsNamed, groupings_in, keys_of, names_in}
use Rattle.audit_cards.specs.Sessions.{turn_of}
use Rattle.audit_order.proofs.SameLists.{get_or-map}

-- ---- names

pub names_more : (rows : List Row) (i : ℕ) (row : Row) → i < length rows → row ≡ get_or rows i row → names_in (take (i + 1) rows) ≡ with_key (names_in (take i rows)) row.rec
names_more rows i row within is =
    ap names_in (take_more rows i row within ∙ ap (λ r. take i rows ++ r ∷ []) (sym is))
    ∙ ap (fold with_key []) (map-append (λ (r : Row). r.rec) (take i rows) (row ∷ []))
    ∙ fold_push with_key [] (map (λ (r : Row). r.rec) (take i rows)) row.rec

pub name_added : (old ks : List (List ℕ)) (k : List ℕ) (added : Bool) → old ≡ ks → added ≡ not (list_any (bytes_eq k) old) → added ≡ true → ks ++ k ∷ [] ≡ with_key ks k
name_added old ks k added same is yes_ =
    let none : list_any (bytes_eq k) ks ≡ false = ap (list_any (bytes_eq k)) (sym same) ∙ from_not (list_any (bytes_eq k) old) (sym is ∙ yes_) in
    sym (cond-false (list_any (bytes_eq k) ks) ks (ks ++ k ∷ []) none)
  where
    from_not : (b : Bool) → not b ≡ true → b ≡ false
    from_not true e = sym e
    from_not false e = refl

pub name_known : (old ks : List (List ℕ)) (k : List ℕ) (added : Bool) → old ≡ ks → added ≡ not (list_any (bytes_eq k) old) → added ≡ false → ks ≡ with_key ks k
name_known old ks k added same is no_ =
    let some : list_any (bytes_eq k) ks ≡ true = ap (list_any (bytes_eq k)) (sym same) ∙ from_not (list_any (bytes_eq k) old) (sym is ∙ no_) in
    sym (cond-true (list_any (bytes_eq k) ks) ks (ks ++ k ∷ []) some)
  where
    from_not : (b : Bool) → not b ≡ false → b ≡ true
    from_not true e = refl
    from_not false e = sym e

pub name_decides : (names : List (List ℕ)) (p : ℕ) (m n : List ℕ) (r : Bool) → true ≡ ltb p (length names) → m ≡ get_or names p m → r ≡ bytes_eq m n
    → (r ≡ true → slice_get names p ≡ Some n) × (slice_get names p ≡ Some n → r ≡ true)
name_decides names p m n r inside at is =
    let within : p < length names = grind (arith, nat_tests) in
    let there : slice_get names p ≡ Some m = slice_get-get_or names p m within ∙ ap Some (sym at) in (
      λ passes. there ∙ ap Some (same-bytes_eq m n (sym is ∙ passes)),
      λ same. is ∙ ap (bytes_eq m) (sym (same_Some m n (sym there ∙ same))) ∙ bytes_eq-same m,
    )

-- ---- keys

pub keys_count : (id : ℕ) (names : List (List ℕ)) → length (keys_of id names) ≡ length names
keys_count id names =
    length-map (enumerate_from 0 names) (λ (e : ℕ × List ℕ). let key : ℕ × (ℕ × List ℕ) = (id, e) in key) ∙ length-enumerate_from 0 names

pub keys_at : (id : ℕ) (names : List (List ℕ)) (k : ℕ) (d : ℕ × (ℕ × List ℕ)) (n : List ℕ) → k < length names → get_or (keys_of id names) k d ≡ (id, (k, get_or names k n))
keys_at id names k d n within =
    let all : k < length (enumerate_from 0 names) = omega (arith, length-enumerate_from 0 names) in
    let here : 0 + k ≡ k = omega arith in
    get_or-map (λ (e : ℕ × List ℕ). let key : ℕ × (ℕ × List ℕ) = (id, e) in key) (enumerate_from 0 names) k (0, n) d all
    ∙ ap (λ (e : ℕ × List ℕ). let key : ℕ × (ℕ × List ℕ) = (id, e) in key) (get_or-enumerate_from 0 names k (0, n) within ∙ ap (λ j. (j, get_or names k n)) here)

pub key_here : (id : ℕ) (names : List (List ℕ)) (k : ℕ) (n : List ℕ) → k < length names → n ≡ get_or names k n
    → (y : ℕ × (ℕ × List ℕ)) → y ≡ (id, (k, n)) → y ≡ get_or (keys_of id names) k y
key_here id names k n within is y y_is =
    y_is ∙ ap (λ m. let key : ℕ × (ℕ × List ℕ) = (id, (k, m)) in key) is ∙ sym (keys_at id names k y n within)

-- ---- groupings

pub groupings_count : (id : ℕ) (rows : List Row) → length (groupings_in id rows) ≡ length rows
groupings_count id rows = length-map (enumerate_from 2 rows) (new_grouping id (names_in rows)) ∙ length-enumerate_from 2 rows

pub grouping_here : (id : ℕ) (rows : List Row) (k : ℕ) (row : Row) → k < length rows → row ≡ get_or rows k row
    → (g : StoredGrouping) → g ≡ new_grouping id (names_in rows) (k + 2, row) → g ≡ get_or (groupings_in id rows) k g
grouping_here id rows k row within is g g_is =
    let all : k < length (enumerate_from 2 rows) = omega (arith, length-enumerate_from 2 rows) in
    let here : 2 + k ≡ k + 2 = omega arith in
    g_is ∙ ap (new_grouping id (names_in rows)) (sym (get_or-enumerate_from 2 rows k (0, row) within ∙ ap (λ j. (j, get_or rows k row)) here ∙ ap (λ r. (k + 2, r)) (sym is)))
    ∙ sym (get_or-map (new_grouping id (names_in rows)) (enumerate_from 2 rows) k (0, row) g all)

module _ (names : List (List ℕ)) (n : List ℕ) (named : IsNamed n names) where
  pub place_of_name : (p : ℕ) → slice_get names p ≡ Some n → p ≡ position_or_len (bytes_eq n) names
  place_of_name p there =
      let within : p < length names = slice_get_within names p n there in
      let here : get_or names p n ≡ n = same_Some (get_or names p n) n (sym (slice_get-get_or names p n within) ∙ there) in
      sym (position_or_len_is (bytes_eq n) names p n (omega arith)
      (λ k before. bytes_eq_either n (get_or names k n) ∙ ap (bytes_eq (get_or names k n)) (sym here) ∙ named.once k p n before within)
      (λ inside. ap (bytes_eq n) here ∙ bytes_eq-same n))

  pub name_of_place : (p : ℕ) → p ≡ position_or_len (bytes_eq n) names → slice_get names p ≡ Some n
  name_of_place p is = ap (slice_get names) is ∙ name_at n names named.there

  pub grouping_same : (g : StoredGrouping) (id line : ℕ) (row : Row) → row.rec ≡ n → g.batch ≡ id → g.line ≡ line → slice_get names g.place ≡ Some n
      → g.rank ≡ row.rank → g.enc ≡ row.enc → g.tol ≡ row.tol → g.aid ≡ row.aid → g.coded ≡ row.coded → g ≡ new_grouping id names (line, row)
  grouping_same g id line row rec_is batch_is line_is there rank_is enc_is tol_is aid_is coded_is =
      let place_is : g.place ≡ position_or_len (bytes_eq row.rec) names = place_of_name g.place there ∙ ap (λ m. position_or_len (bytes_eq m) names) (sym rec_is) in
      λ i. record { batch = batch_is i; line = line_is i; place = place_is i; aid = aid_is i; rank = rank_is i; enc = enc_is i; tol = tol_is i; coded = coded_is i }

-- ---- remakes

pub turns_count : (r : StoredRecord) → length (turns_of r) ≡ r.remakes
turns_count r = length-map-range_with_len (turn_of r) 1 r.remakes

pub turn_here : (r : StoredRecord) (k : ℕ) → k < r.remakes → (y : StoredRemake) → y ≡ turn_of r (1 + k) → y ≡ get_or (turns_of r) k y
turn_here r k within y is = is ∙ sym (get_or-map-range_with_len (turn_of r) 1 r.remakes k (1 + k) y within refl)

-- No two names are equal.
distinct_once : (names : List (List ℕ)) → Distinct names → AllPairs (λ (m k : List ℕ). bytes_eq m k ≡ false) names
distinct_once [] distinct = λ i j d before within. absurd (omega arith)
distinct_once (n ∷ names) distinct =
    AllPairs-cons (λ (m k : List ℕ). bytes_eq m k ≡ false) n names (All-from_list_any (bytes_eq n) names distinct.0) (distinct_once names distinct.1)

-- ---- the names of a file include the record name of each row

pub named_here : (rows : List Row) (k : ℕ) (row : Row) → k < length rows → row ≡ get_or rows k row → IsNamed row.rec (names_in rows)
named_here rows k row within is = record {
  there =
      list_any-first_appearances row.rec [] (map (λ (r : Row). r.rec) rows)
      ∙ list_any_at (bytes_eq row.rec) (map (λ (r : Row). r.rec) rows) k row.rec (omega (arith, length-map rows (λ (r : Row). r.rec)))
      (ap (bytes_eq row.rec) (get_or-map (λ (r : Row). r.rec) rows k row row.rec within ∙ ap (λ (r : Row). r.rec) (sym is)) ∙ bytes_eq-same row.rec);
  once = distinct_once (names_in rows) (Distinct-first_appearances [] (map (λ (r : Row). r.rec) rows) tt);
}

-- ---- words

pub words_count : (id : ℕ) (own : List StoredWord) → length (words_placed id own) ≡ length own
words_count id own =
    length-map (enumerate_from 0 (status_words own)) (λ (w : ℕ × ℕ). record { session = id; place = w.0; sw = w.1 }) ∙ length-enumerate_from 0 (status_words own)
    ∙ length-map own (λ (w : StoredWord). w.sw)

pub word_here : (id : ℕ) (own : List StoredWord) (k : ℕ) (w : StoredWord) → k < length own → w ≡ get_or own k w
    → (y : StoredWord) → y ≡ word_at id k w → y ≡ get_or (words_placed id own) k y
word_here id own k w within is y y_is =
    let sws : k < length (status_words own) = omega (arith, length-map own (λ (w : StoredWord). w.sw)) in
    let all : k < length (enumerate_from 0 (status_words own)) = omega (arith, length-enumerate_from 0 (status_words own)) in
    let here : 0 + k ≡ k = omega arith in
    let placed : ℕ × ℕ → StoredWord = λ (v : ℕ × ℕ). record { session = id; place = v.0; sw = v.1 } in
    y_is
    ∙ ap placed (ap (λ v. (k, v)) (ap (λ (x : StoredWord). x.sw) is ∙ sym (get_or-map (λ (x : StoredWord). x.sw) own k w w.sw within)) ∙ sym (get_or-enumerate_from 0 (status_words own) k (0, w.sw) sws ∙ ap (λ j. (j, get_or (status_words own) k w.sw)) here))
    ∙ sym (get_or-map placed (enumerate_from 0 (status_words own)) k (0, w.sw) y all)

pub placed_is : (t : Tables) (s : StoredSession) (own : List StoredWord) → status_words own ≡ words_of t.words s.id → placed_words t s ≡ words_placed s.id own
placed_is t s own same = ap (λ ws. map (λ (w : ℕ × ℕ). record { session = s.id; place = w.0; sw = w.1 }) (enumerate_from 0 ws)) (sym same)
