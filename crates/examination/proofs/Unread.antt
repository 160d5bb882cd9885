-- Rows are the rows of sound contents if and only if they are without the bytes of replies, because
-- no audit rule depends on these bytes.
use Rattle.std.proofs.Common.{◌≡◌, ◌∙◌, ◌<◌, ℕ, false, List, [], ◌∷◌, length, map, slice_index_or, IsTrue, refl, sym, ap, subst, arith}
use Rattle.std.specs.Prelude.{All, AllPairs}
use Rattle.std.specs.List.{swap}
use Rattle.std.specs.List.Sorted.{IsPermutation, SwapsInRange, apply_swaps}
use Rattle.std.proofs.Math.ListN.{get_or-map, set}
use Rattle.std.proofs.lemmas.List.{length-map, map-set, get_or-map as read_map}
use Rattle.std.proofs.lemmas.List.Elements.{All-map}
use Rattle.std.proofs.lemmas.List.Sorted.{IsPermutation-map, IsPermutation-sym}
use Rattle.job_facts.specs.Contents.{AreSound, Contents, Entry, IsEntry, is_above, is_of_number}
use Rattle.table_rows.specs.Tables.{HaveSameRows, Tables}
use Rattle.image_laws.specs.Image.{image}
use Rattle.table_reads.specs.Unread.{without_bytes, without_reply_bytes}
use Rattle.examination.specs.Findings.{AreOfSoundContents}

-- ---- lists

module _ {X Y : Type 0} (f : X → Y) where
  within : (xs : List X) (k : ℕ) → k < length xs → k < length (map f xs)
  within xs k low = subst (λ n. k < n) (sym (length-map xs f)) low

  pub All-from_map : (P : Y → Type 0) (xs : List X) → All P (map f xs) → All (λ x. P (f x)) xs
  All-from_map P xs all k d low = subst P (get_or-map f xs k d) (all k (f d) (within xs k low))

  pub AllPairs-from_map : (R : Y → Y → Type 0) (xs : List X) → AllPairs R (map f xs) → AllPairs (λ x y. R (f x) (f y)) xs
  AllPairs-from_map R xs pairs i j d before low =
      let first = get_or-map f xs i d in
      let later = get_or-map f xs j d in
      subst (λ x. R x (f (slice_index_or xs j d))) first (subst (R (slice_index_or (map f xs) i (f d))) later (pairs i j (f d) before (within xs j low)))

  pub AllPairs-map : (R : Y → Y → Type 0) (xs : List X) → AllPairs (λ x y. R (f x) (f y)) xs → AllPairs R (map f xs)
  AllPairs-map R [] pairs i j d before low = absurd (omega (arith, low))
  AllPairs-map R (x ∷ xs) pairs i j d before low =
      let short : j < length (x ∷ xs) = subst (λ n. j < n) (length-map (x ∷ xs) f) low in
      let first : slice_index_or (map f (x ∷ xs)) i d ≡ f (slice_index_or (x ∷ xs) i x) = read_map f (x ∷ xs) i x d (omega (arith, before, short)) in
      let later : slice_index_or (map f (x ∷ xs)) j d ≡ f (slice_index_or (x ∷ xs) j x) = read_map f (x ∷ xs) j x d short in
      subst (λ y. R y (slice_index_or (map f (x ∷ xs)) j d)) (sym first) (subst (R (f (slice_index_or (x ∷ xs) i x))) (sym later) (pairs i j x before short))

  map-swap : (xs : List X) (i j : ℕ) → map f (swap xs i j) ≡ swap (map f xs) i j
  map-swap [] i j = refl
  map-swap (x ∷ ys) i j =
      let xs = x ∷ ys in
      let a = slice_index_or xs j x in
      let b = slice_index_or xs i x in
      map-set f (set xs i a) j b ∙ ap (λ zs. set zs j (f b)) (map-set f xs i a)
      ∙ ap (λ y. set (set (map f xs) i y) j (f b)) (sym (get_or-map f xs j x)) ∙ ap (λ y. set (set (map f xs) i (slice_index_or (map f xs) j (f x))) j y) (sym (get_or-map f xs i x))

  map-swaps : (xs : List X) (ps : List (ℕ × ℕ)) → map f (apply_swaps xs ps) ≡ apply_swaps (map f xs) ps
  map-swaps xs [] = refl
  map-swaps xs (p ∷ ps) = map-swap (apply_swaps xs ps) p.0 p.1 ∙ ap (λ ys. swap ys p.0 p.1) (map-swaps xs ps)

  -- Every order of the mapped elements is the image of an order of the elements.
  lifted : (xs : List X) (ys : List Y) → IsPermutation (map f xs) ys → (zs : List X) × IsPermutation xs zs × (map f zs ≡ ys)
  lifted xs ys same = (
    apply_swaps xs same.moves,
    record { moves = same.moves; below = subst (λ n. SwapsInRange n same.moves) (length-map xs f) same.below; is = refl },
    map-swaps xs same.moves ∙ sym same.is,
  )

-- ---- contents

pub is_entry : (e : Entry) → IsEntry e → IsEntry (without_bytes e)
is_entry e is = record { client = is.client; least = is.least; most = is.most; status = is.status }

pub entry_is : (e : Entry) → IsEntry (without_bytes e) → IsEntry e
entry_is e is = record { client = is.client; least = is.least; most = is.most; status = is.status }

sound_without : (c : Contents) → AreSound c → AreSound (record c { kept = map without_bytes c.kept })
sound_without c sound = record {
  facts = sound.facts;
  kept = All-map IsEntry without_bytes c.kept (λ k d low. is_entry (slice_index_or c.kept k d) (sound.kept k d low));
  kept_once = AllPairs-map without_bytes (λ d e. is_of_number d e ≡ false) c.kept sound.kept_once;
  marks = sound.marks;
  marked_once = sound.marked_once;
  above = All-map (λ e. IsTrue (is_above c.marks e)) without_bytes c.kept sound.above;
}

sound_with : (c : Contents) (kept : List Entry) → map without_bytes kept ≡ c.kept → AreSound c → AreSound (record c { kept = kept })
sound_with c kept same sound = record {
  facts = sound.facts;
  kept = λ k d low. entry_is (slice_index_or kept k d) (All-from_map without_bytes IsEntry kept (subst (All IsEntry) (sym same) sound.kept) k d low);
  kept_once = AllPairs-from_map without_bytes (λ d e. is_of_number d e ≡ false) kept (subst (AllPairs (λ d e. is_of_number d e ≡ false)) (sym same) sound.kept_once);
  marks = sound.marks;
  marked_once = sound.marked_once;
  above = All-from_map without_bytes (λ e. IsTrue (is_above c.marks e)) kept (subst (All (λ e. IsTrue (is_above c.marks e))) (sym same) sound.above);
}

-- ---- rows

with_replies : (t u : Tables) (xs ys : List Entry) → HaveSameRows t u → IsPermutation xs ys → HaveSameRows (record t { replies = xs }) (record u { replies = ys })
with_replies t u xs ys same replies = assumption

pub without_bytes_sound : (t : Tables) → AreOfSoundContents t → AreOfSoundContents (without_reply_bytes t)
without_bytes_sound t is =
    let c = is.0 in
    (record c { kept = map without_bytes c.kept }, sound_without c is.1, with_replies t (image c) _ _ is.2 (IsPermutation-map without_bytes t.replies c.kept is.2.replies))

pub with_bytes_sound : (t : Tables) → AreOfSoundContents (without_reply_bytes t) → AreOfSoundContents t
with_bytes_sound t is =
    let c = is.0 in
    let all = lifted without_bytes t.replies c.kept is.2.replies in
    (record c { kept = all.0 }, sound_with c all.0 all.2 is.1, with_replies (without_reply_bytes t) (image c) _ _ is.2 all.1)

-- rows in the order of `t`, with the bytes of the replies in `u`
pub with_bytes : (t u : Tables) → HaveSameRows t (without_reply_bytes u) → (all : List Entry) × HaveSameRows (record t { replies = all }) u × (t ≡ without_reply_bytes (record t { replies = all }))
with_bytes t u same =
    let all = lifted without_bytes u.replies t.replies (IsPermutation-sym t.replies (map without_bytes u.replies) same.replies) in (
      all.0,
      with_replies t (without_reply_bytes u) all.0 u.replies same (IsPermutation-sym u.replies all.0 all.1),
      sym (ap (λ (es : List Entry). record t { replies = es }) all.2),
    )
