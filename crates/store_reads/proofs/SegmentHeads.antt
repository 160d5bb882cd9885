-- Lemmas about a segment of a plan, from the columns of all groupings of its record except their
-- bytes, and from the bytes of its own groupings.
use Rattle.std.proofs.Common.{◌≡◌, ◌==◌, ◌&&◌, ◌+◌, ℕ, Bool, cond, true, false, inl, inr, List, [], ◌∷◌, ◌++◌, All, length, map, Option, Some, None, refl, sym, ap, subst, ◌∙◌}
use Rattle.std.specs.Prelude.{bytes_eq, filter, find, option_and_then, option_map, slice_get}
use Rattle.std.specs.List.{cons_option, filter_map, flat_map}
use Rattle.std.specs.Option.{option_to_list}
use Rattle.std.proofs.lemmas.Bool.{cases_Bool, cond-false, cond-true}
use Rattle.std.proofs.lemmas.List.{length-map, map-append}
use Rattle.std.proofs.lemmas.List.Elements.{All-head, All-tail, filter_passes}
use Rattle.std.proofs.lemmas.List.Folds.{flat_map-map}
use Rattle.std.proofs.lemmas.Option.{none-some, same_Some, slice_get-map}
use Rattle.store_data.specs.declared.row.Product.{Product}
use Rattle.store_data.specs.declared.row.Row.{Row}
use Rattle.store_data.specs.Cursor.{PlacedSegment, placed_segment, segment_at}
use Rattle.store_data.specs.Groups.{first_appearances, grouped, with_the_key}
use Rattle.store_data.specs.Ranks.{ranks}
use Rattle.store_data.specs.Sequence.{Application, Segment, aid_of, application_of, applications_of, plan_of, rows_of_rank, segment_of, segments_of}
use Rattle.store_data.proofs.GroupLemmas.{same-bytes_eq}
use Rattle.sqlite_keyed.proofs.ListLemmas.{filter-map}
use Rattle.sql_base.proofs.Selecting.{map_map}
use Rattle.row_reads.specs.declared.groupings.GroupingAt.{GroupingAt}
use Rattle.row_reads.specs.CardDecoding.{grouping_at}
use Rattle.table_rows.specs.Tables.{StoredGrouping}
use Rattle.row_laws.specs.RowValues.{row_of}
use Rattle.row_laws.proofs.Finding.{find-map, option_map-map}
use Rattle.store_reads.specs.declared.plans.PlacedHead.{PlacedHead}
use Rattle.store_reads.specs.declared.plans.SegmentHead.{SegmentHead}
use Rattle.store_reads.specs.Segments.{head_at, head_of_rank, head_with, heads_in, heads_of, placed_head}
use Rattle.store_reads.proofs.Ordered.{first_of, first_passing}

-- ---- lists

-- if all elements have the property `P`, an element that is found has it
found_has : {X : Type 0} (P : X → Type 0) (p : X → Bool) (xs : List X) (x : X) → All P xs → find p xs ≡ Some x → P x
found_has P p [] x each is = absurd (none-some x is)
found_has P p (y ∷ xs) x each is = elim (cases_Bool (p y)) [
  | inl hit ↦ subst P (same_Some y x (sym (cond-true (p y) (Some y) (find p xs) hit) ∙ is)) (All-head P y xs each)
  | inr miss ↦ found_has P p xs x (All-tail P y xs each) (sym (cond-false (p y) (Some y) (find p xs) miss) ∙ is)
]

pub filter_both : {X : Type 0} (p q : X → Bool) (xs : List X) → filter (λ x. p x && q x) xs ≡ filter q (filter p xs)
filter_both p q [] = refl
filter_both p q (x ∷ xs) = elim (p x) as (λ b. cond (b && q x) (x ∷ filter (λ y. p y && q y) xs) (filter (λ y. p y && q y) xs) ≡ filter q (cond b (x ∷ filter p xs) (filter p xs))) [
  | true ↦ ap (λ ys. cond (q x) (x ∷ ys) ys) (filter_both p q xs)
  | false ↦ filter_both p q xs
]

-- ---- the segments of an application

abbrev pub bytes_of : List StoredGrouping → List ℕ
bytes_of = flat_map (λ (g : StoredGrouping). g.coded)

abbrev has_rank : ℕ → StoredGrouping → Bool
has_rank k g = g.rank == k

-- the joined groupings `gs`, with the encryption and tolerance of the grouping `g`
abbrev segment_with : List StoredGrouping → StoredGrouping → Segment
segment_with gs g = record { enc = g.enc; tol = g.tol; bytes = bytes_of gs }

module _ (r : List ℕ) (own : List StoredGrouping) where
  from_rows : (gs : List StoredGrouping) → segment_of (map (row_of r) gs) ≡ option_to_list (option_map (segment_with gs) (first_of gs))
  from_rows [] = refl
  from_rows (g ∷ gs) =
      ap (λ bytes. let s : Segment = record { enc = g.enc; tol = g.tol; bytes = bytes } in s ∷ []) (flat_map-map (λ (row : Row). row.coded) (row_of r) (g ∷ gs))

  one : (k : ℕ) → segment_of (rows_of_rank (map (row_of r) own) k) ≡ option_to_list (option_map (segment_with (filter (has_rank k) own)) (find (has_rank k) own))
  one k =
      ap segment_of (filter-map (λ (row : Row). row.rank == k) (row_of r) own) ∙ from_rows (filter (has_rank k) own)
      ∙ ap (λ o. option_to_list (option_map (segment_with (filter (has_rank k) own)) o)) (first_passing (has_rank k) own)

-- ---- a segment from its head

-- `g` has the application and the rank of the head `h`.
abbrev pub is_under : SegmentHead → StoredGrouping → Bool
is_under h g = bytes_eq g.aid h.aid && (g.rank == h.rank)

-- the segment with the head `p`, of a record with the groupings `all`
abbrev pub with_bytes : List StoredGrouping → PlacedHead → PlacedSegment
with_bytes all p =
    record { aid = p.head.aid; segment = record { enc = p.head.enc; tol = p.head.tol; bytes = bytes_of (filter (is_under p.head) all) }; last = p.last }

abbrev placed_as : List ℕ → Segment → Bool → PlacedSegment
placed_as aid s last = record { aid = aid; segment = s; last = last }

module _ (r : List ℕ) (all : List StoredGrouping) (key : List ℕ) where
  abbrev own : List StoredGrouping
  own = filter (λ (g : StoredGrouping). bytes_eq g.aid key) all

  abbrev heads : List GroupingAt
  heads = map grouping_at own

  abbrev HasKey : StoredGrouping → Type 0
  HasKey g = bytes_eq g.aid key ≡ true

  first_aid : (gs : List StoredGrouping) → All HasKey gs → (p : StoredGrouping → Bool) (g : StoredGrouping) → find p gs ≡ Some g → aid_of (map (row_of r) gs) ≡ g.aid
  first_aid [] each p g is = absurd (none-some g is)
  first_aid (x ∷ gs) each p g is =
      same-bytes_eq x.aid key (All-head HasKey x gs each) ∙ sym (same-bytes_eq g.aid key (found_has HasKey p (x ∷ gs) g each is))

  of_rank : (k : ℕ) (g : StoredGrouping) → g.aid ≡ key → filter (has_rank k) own ≡ filter (λ (x : StoredGrouping). bytes_eq x.aid g.aid && (x.rank == k)) all
  of_rank k g is =
      ap (λ aid. filter (has_rank k) (filter (λ (x : StoredGrouping). bytes_eq x.aid aid) all)) (sym is)
      ∙ sym (filter_both (λ (x : StoredGrouping). bytes_eq x.aid g.aid) (has_rank k) all)

  abbrev rows : List Row
  rows = map (row_of r) own

  module _ (last : Bool) where
    abbrev placed : Segment → PlacedSegment
    placed s = placed_as (aid_of rows) s last

    abbrev read : SegmentHead → PlacedSegment
    read h = with_bytes all (record { head = h; last = last })

    found_read : (k : ℕ) (o : Option StoredGrouping) → find (has_rank k) own ≡ o
        → map placed (option_to_list (option_map (segment_with (filter (has_rank k) own)) o)) ≡ map read (option_to_list (option_map (head_with k) (option_map grouping_at o)))
    found_read k None is = refl
    found_read k (Some g) is =
        let each : All HasKey own = filter_passes (λ (x : StoredGrouping). bytes_eq x.aid key) all in
        ap (λ aid. placed_as aid (segment_with (filter (has_rank k) own) g) last ∷ []) (first_aid own each (has_rank k) g is)
        ∙ ap (λ gs. placed_as g.aid (segment_with gs g) last ∷ []) (of_rank k g (same-bytes_eq g.aid key (found_has HasKey (has_rank k) own g each is)))

    rank_read : (k : ℕ) → map placed (segment_of (rows_of_rank rows k)) ≡ map read (option_to_list (head_of_rank heads k))
    rank_read k =
        ap (map placed) (one r own k) ∙ found_read k (find (has_rank k) own) refl
        ∙ sym (ap (λ o. map read (option_to_list (option_map (head_with k) o))) (find-map (λ (g : GroupingAt). g.rank == k) grouping_at own))

    put : (o : Option SegmentHead) (hs : List SegmentHead) → map read (option_to_list o) ++ map read hs ≡ map read (cons_option o hs)
    put None hs = refl
    put (Some h) hs = refl

    ranks_read : (ks : List ℕ) → map placed (flat_map (λ k. segment_of (rows_of_rank rows k)) ks) ≡ map read (filter_map (head_of_rank heads) ks)
    ranks_read [] = refl
    ranks_read (k ∷ ks) =
        map-append placed (segment_of (rows_of_rank rows k)) (flat_map (λ n. segment_of (rows_of_rank rows n)) ks)
        ∙ ap (λ xs. map placed (segment_of (rows_of_rank rows k)) ++ xs) (ranks_read ks)
        ∙ ap (λ xs. xs ++ map read (filter_map (head_of_rank heads) ks)) (rank_read k)
        ∙ put (head_of_rank heads k) (filter_map (head_of_rank heads) ks)

    segments_read : map placed (segments_of rows) ≡ map read (heads_in heads)
    unfolding segments_of
    segments_read = ranks_read ranks

  application_read : (q : ℕ) → placed_segment (application_of rows) q ≡ option_map (with_bytes all) (placed_head (heads_in heads) q)
  application_read q =
      let hs = heads_in heads in
      let last = q + 1 == length hs in
      let many : length (segments_of rows) ≡ length hs = sym (length-map (segments_of rows) (placed last)) ∙ ap length (segments_read last) ∙ length-map hs (read last) in
      ap (λ n. option_map (λ (s : Segment). placed_as (aid_of rows) s (q + 1 == n)) (slice_get (segments_of rows) q)) many
      ∙ sym (slice_get-map (placed last) (segments_of rows) q) ∙ ap (λ xs. slice_get xs q) (segments_read last) ∙ slice_get-map (read last) hs q
      ∙ sym (option_map-map (with_bytes all) (λ (h : SegmentHead). let p : PlacedHead = record { head = h; last = last } in p) (slice_get hs q))

-- a value computed from the group of a key
made_at : {K X Y : Type 0} (f : X → Y) (g : K → X) (ks : List K) (a : ℕ) → slice_get (map f (map g ks)) a ≡ option_map f (option_map g (slice_get ks a))
made_at f g ks a = slice_get-map f (map g ks) a ∙ ap (option_map f) (slice_get-map g ks a)

module _ (r : List ℕ) (all : List StoredGrouping) (p : Product) (a q : ℕ) where
  abbrev keys : List (List ℕ)
  keys = first_appearances (map (λ (g : StoredGrouping). g.aid) all)

  row_keys : first_appearances (map (λ (row : Row). row.aid) (map (row_of r) all)) ≡ keys
  row_keys = ap first_appearances (map_map (λ (row : Row). row.aid) (row_of r) all)

  head_keys : first_appearances (map (λ (g : GroupingAt). g.aid) (map grouping_at all)) ≡ keys
  head_keys = ap first_appearances (map_map (λ (g : GroupingAt). g.aid) grouping_at all)

  abbrev rows_with : List ℕ → List Row
  rows_with = with_the_key (λ (row : Row). row.aid) (map (row_of r) all)

  abbrev marks_with : List ℕ → List GroupingAt
  marks_with = with_the_key (λ (g : GroupingAt). g.aid) (map grouping_at all)

  key_read : (o : Option (List ℕ)) → option_and_then (λ (x : Application). placed_segment x q) (option_map application_of (option_map rows_with o))
      ≡ option_map (with_bytes all) (option_and_then (λ own. placed_head own q) (option_map heads_in (option_map marks_with o)))
  key_read None = refl
  key_read (Some key) =
      ap (λ rows. placed_segment (application_of rows) q) (filter-map (λ (row : Row). bytes_eq row.aid key) (row_of r) all)
      ∙ application_read r all key q
      ∙ sym (ap (λ gs. option_map (with_bytes all) (placed_head (heads_in gs) q)) (filter-map (λ (g : GroupingAt). bytes_eq g.aid key) grouping_at all))

  -- a segment has the encryption and tolerance of its head, and the bytes of the groupings with its
  -- application and rank
  pub segment_by_head : segment_at (plan_of p (map (row_of r) all)) a q ≡ option_map (with_bytes all) (head_at (heads_of (map grouping_at all)) a q)
  unfolding applications_of grouped
  segment_by_head =
      ap (option_and_then (λ (x : Application). placed_segment x q)) (ap (λ ks. slice_get (map application_of (map rows_with ks)) a) row_keys ∙ made_at application_of rows_with keys a)
      ∙ key_read (slice_get keys a)
      ∙ sym (ap (λ o. option_map (with_bytes all) (option_and_then (λ own. placed_head own q) o))
      (ap (λ ks. slice_get (map heads_in (map marks_with ks)) a) head_keys ∙ made_at heads_in marks_with keys a))
